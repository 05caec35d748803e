-- The five layers in turn are what is in front, and both halves of the dots are the row.
use Rattle.std.proofs.Common.{ℕ, ◌<◌, ap, ◌∙◌}
use Rattle.scanline_ops.specs.RankedPixels.{RankedPixel}
use Rattle.ppu_screens.specs.Screens.{ranked_pixel_at, even_dot, odd_dot}
use Rattle.ppu_line.specs.Line.{main_front, sub_front, pixel}
use Rattle.ppu_line.proofs.FrontSteps.{main_five, sub_five}
use Rattle.ppu_line.proofs.Halves.{halves}
use Rattle.ppu_line.proofs.line.draw_layers.Goals as goal

pub returns : goal.returns
unfolding pixel
returns c =
    let p = c.args.p.now in
    let row : ℕ = c.args.row in
    let main = λ (x : ℕ) (h : x < 256).
    main_five p row x _ _ _ _ _ _ (c.start.ensures.main x h) (c.add_background.ensures.main x h)
    (c.add_background-2.ensures.main x h) (c.add_background-3.ensures.main x h)
    (c.add_background-4.ensures.main x h) (c.add_objects.ensures.main x h) in
    let sub = λ (x : ℕ) (h : x < 256).
    sub_five p row x _ _ _ _ _ _ (c.start.ensures.sub x h) (c.add_background.ensures.sub x h)
    (c.add_background-2.ensures.sub x h) (c.add_background-3.ensures.sub x h)
    (c.add_background-4.ensures.sub x h) (c.add_objects.ensures.sub x h) in
    halves _
    (λ x. even_dot p x (main_front p row x) (sub_front p row x))
    (λ x. odd_dot p x (main_front p row x) (sub_front p row x))
    (λ x h. c.finish.ensures.even x h
    ∙ ap (λ (i : RankedPixel). even_dot p x i (ranked_pixel_at c.add_objects.new.sub x)) (main x h)
    ∙ ap (λ (i : RankedPixel). even_dot p x (main_front p row x) i) (sub x h))
    (λ x h. c.finish.ensures.odd x h
    ∙ ap (λ (i : RankedPixel). odd_dot p x i (ranked_pixel_at c.add_objects.new.sub x)) (main x h)
    ∙ ap (λ (i : RankedPixel). odd_dot p x (main_front p row x) i) (sub x h))
