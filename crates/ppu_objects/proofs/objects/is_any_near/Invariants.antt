-- No mark before the loop's is greater than the greatest.
use Rattle.std.proofs.Common.{ℕ, ◌<◌, ◌≤◌, get_or}
use Rattle.ppu_objects.proofs.objects.is_any_near.Given as goal

abbrev pub invariant-loop-n : goal.invariant-loop-n
invariant-loop-n l = (k : ℕ) → k < l.n → get_or l.near k 0 ≤ l.most
