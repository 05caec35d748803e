use Rattle.std.proofs.Common.{◌≡◌, ◌+◌, ◌*◌, ◌/◌, ap, sym, ◌∙◌, arith}
use Rattle.scanline_ops.specs.RankedPixels.{RankedPixel, nearest}
use Rattle.ppu_screens.specs.Screens.{ranked_pixel_at, on_main, on_sub}
use Rattle.ppu_line.specs.Line.{ranked_pixel_of, main_pixel, sub_pixel}
use Rattle.ppu_line.proofs.Painted.{layer_objects}
use Rattle.ppu_line.proofs.layers.lay_objects.Goals as goal

pub returns-clause-main : goal.returns-clause-main
unfolding main_pixel
returns-clause-main c x h =
    let half : (2 * x + 1) / 2 ≡ x = omega arith in
    c.lay_layer.ensures.main x h
    ∙ ap (λ (i : RankedPixel). nearest (ranked_pixel_at c.args.main.now x) (on_main c.args.p.now.registers 5 x i))
    (c.paint_objects.ensures x h
    ∙ ap (ranked_pixel_of c.args.p.now 5) (sym (layer_objects c.args.p.now c.args.row (2 * x + 1) x half)))

pub returns-clause-sub : goal.returns-clause-sub
unfolding sub_pixel
returns-clause-sub c x h =
    let half : 2 * x / 2 ≡ x = omega arith in
    c.lay_layer.ensures.sub x h
    ∙ ap (λ (i : RankedPixel). nearest (ranked_pixel_at c.args.sub.now x) (on_sub c.args.p.now.registers 5 x i))
    (c.paint_objects.ensures x h
    ∙ ap (ranked_pixel_of c.args.p.now 5) (sym (layer_objects c.args.p.now c.args.row (2 * x) x half)))
