use Rattle.std.proofs.Common.{ℕ, List, ap, ◌∙◌}
use Rattle.ppu_regs.specs.Dots.{dot_of}
use Rattle.ppu_objects.specs.Slivers.{object_layer_dot}
use Rattle.ppu_objects.proofs.Seen.{object_layer_dot_is}
use Rattle.ppu_objects.proofs.rows.dot_in_row.Goals as goal

pub returns : goal.returns
returns c =
    c.dot_at.ensures (object_layer_dot c.args.p.now c.args.row c.args.x) (object_layer_dot_is c.args.p.now c.args.row c.args.x)
    c.requires.rank c.requires.number
    ∙ ap (λ (colours : List ℕ). dot_of colours (object_layer_dot c.args.p.now c.args.row c.args.x)) c.cgram.ensures.colours
