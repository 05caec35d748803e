use Rattle.std.proofs.Common.{◌≡◌, ℕ, ◌<◌, ◌≤◌, get_or, length}
use Rattle.input_files.specs.Table.{entry_of}
use Rattle.input_files.proofs.table.read_table.Given as goal

abbrev pub invariant-loop-i : goal.invariant-loop-i
invariant-loop-i l = record {
  entries : length l.numbers ≡ 512;
  done : (k : ℕ) → k < l.i → get_or l.numbers k 0 ≡ entry_of l.fn.file k;
  small : (k : ℕ) → k < l.i → entry_of l.fn.file k ≤ 2047;
}
