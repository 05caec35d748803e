-- Each dot before the loop's is written.
use Rattle.std.proofs.Common.{◌≡◌, ℕ, ◌<◌, get_or}
use Rattle.ppu_regs.specs.Dots.{no_dot, dot_of}
use Rattle.ppu_mode7.specs.Rotated.{rotated_layer_dot}
use Rattle.ppu_mode7.proofs.rows.rotated_row.Given as goal

abbrev pub invariant-loop-x : goal.invariant-loop-x
invariant-loop-x l = (k : ℕ) → k < l.x → get_or l.out k no_dot ≡ dot_of l.p.cgram (rotated_layer_dot l.p l.layer l.row k)
