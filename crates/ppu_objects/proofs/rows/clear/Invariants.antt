-- Each pixel before the loop's is clear.
use Rattle.std.proofs.Common.{◌≡◌, ℕ, ◌<◌, get_or}
use Rattle.ppu_objects.proofs.rows.clear.Given as goal

abbrev pub invariant-loop-x : goal.invariant-loop-x
invariant-loop-x l = record {
  ranks : (k : ℕ) → k < l.x → get_or l.out.ranks k 0 ≡ 0;
  numbers : (k : ℕ) → k < l.x → get_or l.out.numbers k 0 ≡ 0;
}
