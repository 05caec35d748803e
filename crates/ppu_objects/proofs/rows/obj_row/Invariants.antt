-- Each dot before the loop's is written.
use Rattle.std.proofs.Common.{◌≡◌, ℕ, ◌<◌, get_or}
use Rattle.ppu_regs.specs.Dots.{no_dot, dot_of}
use Rattle.ppu_objects.specs.Slivers.{object_layer_dot}
use Rattle.ppu_objects.proofs.rows.obj_row.Given as goal

abbrev pub invariant-loop-x : goal.invariant-loop-x
invariant-loop-x l = (k : ℕ) → k < l.x → get_or l.out k no_dot ≡ dot_of l.p.cgram (object_layer_dot l.p l.row k)
