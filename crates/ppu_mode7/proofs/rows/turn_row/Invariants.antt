-- Each place before the loop's is done.
use Rattle.std.proofs.Common.{◌≡◌, ℕ, ◌-◌, ◌<◌, get_or}
use Rattle.ppu_mode7.proofs.rows.turn_row.Given as goal

abbrev pub invariant-loop-x : goal.invariant-loop-x
invariant-loop-x l = (k : ℕ) → k < l.x → get_or l.out k 0 ≡ get_or l.from (255 - k) 0
