use Rattle.std.proofs.Common.{◌≡◌, ℕ, ◌<◌, List, slice_index}
use Rattle.ppu_regs.specs.declared.registers.Background.{Background}
use Rattle.ppu_tiles.specs.Columns.{half_word}
use Rattle.ppu_tiles.proofs.small_tiles.take_words.Given as goal

-- the words of the first n entries
pub record AreTaken (b : Background) (bits py n : ℕ) (entries words : List ℕ) : Type 0 where
  pub taken : (c : ℕ) → c < n → slice_index words c ≡ half_word b bits (slice_index entries c) 0 py
  pub within : (c : ℕ) → c < n → slice_index words c < 32768

abbrev pub invariant-loop-c : goal.invariant-loop-c
invariant-loop-c l = AreTaken l.b l.bits l.py l.c l.entries l.words
