use Rattle.std.proofs.Common.{◌≡◌, false, arith}
use Rattle.ppu_regs.specs.Picture.{screens_of}
use Rattle.ppu_objects.specs.Slivers.{object_layer_dot}
use Rattle.ppu_objects.proofs.Seen.{object_layer_dot_is}
use Rattle.ppu_screens.specs.Order.{layer_rank, rank_base}
use Rattle.ppu_line.proofs.Painted.{object_pixel, bases_small}
use Rattle.ppu_line.proofs.layers.paint_objects.Goals as goal

pub paint_drawn-requires-clause-bases : goal.paint_drawn-requires-clause-bases
paint_drawn-requires-clause-bases c =
    bases_small c.base-first.result c.base-second.result c.base-third.result c.base-fourth.result (omega arith) (omega arith)
    (omega arith) (omega arith)

pub returns : goal.returns
returns c x h =
    let first : c.base-first.result ≡ rank_base (layer_rank c.args.p.now.registers 5 0) false = cc in
    let second : c.base-second.result ≡ rank_base (layer_rank c.args.p.now.registers 5 1) false = cc in
    let third : c.base-third.result ≡ rank_base (layer_rank c.args.p.now.registers 5 2) false = cc in
    let fourth : c.base-fourth.result ≡ rank_base (layer_rank c.args.p.now.registers 5 3) false = cc in
    let named : c.screens.result.now.arithmetic ≡ (screens_of c.args.p.now.registers 5).arithmetic = cc in
    object_pixel c.args.p.now (object_layer_dot c.args.p.now c.args.row x) _ _ c.base-first.result c.base-second.result
    c.base-third.result c.base-fourth.result c.screens.result.now.arithmetic
    (object_layer_dot_is c.args.p.now c.args.row x) first second third fourth named (c.paint_drawn.ensures.ranks x h)
    (c.paint_drawn.ensures.numbers x h)
