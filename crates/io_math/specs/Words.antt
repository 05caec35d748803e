-- The words of both pads, as they stand in this frame.
use Rattle.std.specs.Prelude.{ℕ}
use Rattle.io_math.specs.declared.registers.IoRegisters.{IoRegisters}

abbrev pub with_words : IoRegisters → ℕ → ℕ → IoRegisters
with_words r word1 word2 = record r { pad1 = record r.pad1 { word = word1 }; pad2 = record r.pad2 { word = word2 } }
