-- No key before the loop's is greater than the greatest.
use Rattle.std.proofs.Common.{ℕ, ◌<◌, ◌≤◌, get_or}
use Rattle.ppu_screens.proofs.fronts.is_any_there.Given as goal

abbrev pub invariant-loop-x : goal.invariant-loop-x
invariant-loop-x l = (k : ℕ) → k < l.x → get_or l.keys k 0 ≤ l.most
