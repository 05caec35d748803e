-- Each pixel before the loop's is copied.
use Rattle.std.proofs.Common.{◌≡◌, ℕ, ◌+◌, ◌<◌, get_or}
use Rattle.ppu_objects.proofs.rows.cut.Given as goal

abbrev pub invariant-loop-x : goal.invariant-loop-x
invariant-loop-x l = (k : ℕ) → k < l.x → get_or l.out k 0 ≡ get_or l.from (k + 8) 0
