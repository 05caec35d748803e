use Rattle.std.proofs.Common.{◌≡◌, ◌++◌, drop}
use Rattle.free_files.specs.Interpolation.{table_bytes}
use Rattle.free_files.proofs.interpolation.bytes_of.Given as goal

-- the bytes so far, and those of the numbers that are left
abbrev pub invariant-loop-number : goal.invariant-loop-number
invariant-loop-number l = l.bytes.items ++ table_bytes (drop l.number-index l.numbers) ≡ table_bytes l.numbers
