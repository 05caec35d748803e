use Rattle.std.proofs.Common.{◌≡◌, ℕ, ◌*◌, ◌<◌, get_or, length}
use Rattle.demo_files.proofs.demo.demo_table.Given as goal

abbrev pub invariant-loop-i : goal.invariant-loop-i
invariant-loop-i l = record {
  size : length l.numbers ≡ 512;
  done : (k : ℕ) → k < l.i → get_or l.numbers k 0 ≡ 2 * k;
}
