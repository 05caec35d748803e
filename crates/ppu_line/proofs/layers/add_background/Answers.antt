-- What is painted of the background is laid on both screens: two dots of a pixel in modes 5 and 6, else the same.
use Rattle.std.proofs.Common.{◌≡◌, ℕ, ◌+◌, ◌*◌, ◌/◌, ◌==◌, true, false, ap, sym, ◌∙◌, add-zero, arith}
use Rattle.scanline_ops.specs.RankedPixels.{RankedPixel, nearest}
use Rattle.ppu_regs.specs.declared.registers.Registers.{Registers}
use Rattle.ppu_regs.specs.Picture.{screens_of}
use Rattle.ppu_tiles.specs.Modes.{is_hires}
use Rattle.ppu_screens.specs.Order.{layer_rank, rank_base}
use Rattle.ppu_screens.specs.Screens.{ranked_pixel_at, on_main, on_sub}
use Rattle.ppu_line.specs.Line.{ranked_pixel_of, has_background, any_layer_dot, main_pixel, sub_pixel}
use Rattle.ppu_line.proofs.Painted.{tiles_pixel, rotated_pixel, any_pair}
use Rattle.ppu_line.proofs.layers.add_background.Goals as goal

pub returns-then-rotates-clause-main : goal.returns-then-rotates-clause-main
unfolding main_pixel
returns-then-rotates-clause-main c = λ x h.
    let p = c.args.p.now in
    let layer = c.args.layer in
    let named = (screens_of p.registers layer).arithmetic in
    let has : has_background p.registers.mode layer ≡ true = c.is_shown.ensures.has cc in
    let mode : (p.registers.mode == 7) ≡ true =
    ap (λ (q : Registers). q.mode == 7) (sym c.registers-r.ensures) ∙ sym c.rotates.ensures ∙ c.if-rotates.true in
    let low : c.base-low.result ≡ rank_base (layer_rank p.registers layer 0) named = cc in
    let high : c.base-high.result ≡ rank_base (layer_rank p.registers layer 1) named = cc in
    let half : (2 * x + 1) / 2 ≡ x = omega arith in
    c.lay_layer.ensures.main x h
    ∙ ap (λ (i : RankedPixel). nearest (ranked_pixel_at c.args.main.now x) (on_main p.registers layer x i))
    (rotated_pixel p layer c.args.row (2 * x + 1) x _ _ c.base-low.result c.base-high.result c.requires.last half has mode
    low high (c.rotated_planes.ensures.ranks x h) (c.rotated_planes.ensures.numbers x h))

pub returns-then-rotates-clause-sub : goal.returns-then-rotates-clause-sub
unfolding sub_pixel
returns-then-rotates-clause-sub c = λ x h.
    let p = c.args.p.now in
    let layer = c.args.layer in
    let named = (screens_of p.registers layer).arithmetic in
    let has : has_background p.registers.mode layer ≡ true = c.is_shown.ensures.has cc in
    let mode : (p.registers.mode == 7) ≡ true =
    ap (λ (q : Registers). q.mode == 7) (sym c.registers-r.ensures) ∙ sym c.rotates.ensures ∙ c.if-rotates.true in
    let low : c.base-low.result ≡ rank_base (layer_rank p.registers layer 0) named = cc in
    let high : c.base-high.result ≡ rank_base (layer_rank p.registers layer 1) named = cc in
    let half : 2 * x / 2 ≡ x = omega arith in
    c.lay_layer.ensures.sub x h
    ∙ ap (λ (i : RankedPixel). nearest (ranked_pixel_at c.args.sub.now x) (on_sub p.registers layer x i))
    (rotated_pixel p layer c.args.row (2 * x) x _ _ c.base-low.result c.base-high.result c.requires.last half has mode
    low high (c.rotated_planes.ensures.ranks x h) (c.rotated_planes.ensures.numbers x h))

pub returns-then-hires-clause-main : goal.returns-then-hires-clause-main
unfolding main_pixel
returns-then-hires-clause-main c = λ x h.
    let p = c.args.p.now in
    let layer = c.args.layer in
    let named = (screens_of p.registers layer).arithmetic in
    let has : has_background p.registers.mode layer ≡ true = c.is_shown.ensures.has cc in
    let mode : (p.registers.mode == 7) ≡ false =
    ap (λ (q : Registers). q.mode == 7) (sym c.registers-r.ensures) ∙ sym c.rotates.ensures ∙ c.if-rotates.false in
    let low : c.base-low.result ≡ rank_base (layer_rank p.registers layer 0) named = cc in
    let high : c.base-high.result ≡ rank_base (layer_rank p.registers layer 1) named = cc in
    c.lay_layer-then-hires.ensures.main x h
    ∙ ap (λ (i : RankedPixel). nearest (ranked_pixel_at c.args.main.now x) (on_main p.registers layer x i))
    (tiles_pixel p layer c.args.row (2 * x + 1) _ _ c.base-low.result c.base-high.result c.requires.last has mode
    low high (c.ranked_row.ensures.ranks x h) (c.ranked_row.ensures.numbers x h))

pub returns-then-hires-clause-sub : goal.returns-then-hires-clause-sub
unfolding sub_pixel
returns-then-hires-clause-sub c = λ x h.
    let p = c.args.p.now in
    let layer = c.args.layer in
    let named = (screens_of p.registers layer).arithmetic in
    let has : has_background p.registers.mode layer ≡ true = c.is_shown.ensures.has cc in
    let mode : (p.registers.mode == 7) ≡ false =
    ap (λ (q : Registers). q.mode == 7) (sym c.registers-r.ensures) ∙ sym c.rotates.ensures ∙ c.if-rotates.false in
    let low : c.base-low.result ≡ rank_base (layer_rank p.registers layer 0) named = cc in
    let high : c.base-high.result ≡ rank_base (layer_rank p.registers layer 1) named = cc in
    c.lay_layer-then-hires.ensures.sub x h
    ∙ ap (λ (i : RankedPixel). nearest (ranked_pixel_at c.args.sub.now x) (on_sub p.registers layer x i))
    (tiles_pixel p layer c.args.row (2 * x + 0) _ _ c.base-low.result c.base-high.result c.requires.last has mode
    low high (c.ranked_row-then-hires.ensures.ranks x h) (c.ranked_row-then-hires.ensures.numbers x h)
    ∙ ap (λ (e : ℕ). ranked_pixel_of p layer (any_layer_dot p layer c.args.row e)) (add-zero (2 * x)))

pub returns-else-hires-clause-main : goal.returns-else-hires-clause-main
unfolding main_pixel
returns-else-hires-clause-main c = λ x h.
    let p = c.args.p.now in
    let layer = c.args.layer in
    let named = (screens_of p.registers layer).arithmetic in
    let has : has_background p.registers.mode layer ≡ true = c.is_shown.ensures.has cc in
    let mode : (p.registers.mode == 7) ≡ false =
    ap (λ (q : Registers). q.mode == 7) (sym c.registers-r.ensures) ∙ sym c.rotates.ensures ∙ c.if-rotates.false in
    let low : c.base-low.result ≡ rank_base (layer_rank p.registers layer 0) named = cc in
    let high : c.base-high.result ≡ rank_base (layer_rank p.registers layer 1) named = cc in
    c.lay_layer-else-hires.ensures.main x h
    ∙ ap (λ (i : RankedPixel). nearest (ranked_pixel_at c.args.main.now x) (on_main p.registers layer x i))
    (tiles_pixel p layer c.args.row (2 * x + 1) _ _ c.base-low.result c.base-high.result c.requires.last has mode
    low high (c.ranked_row.ensures.ranks x h) (c.ranked_row.ensures.numbers x h))

pub returns-else-hires-clause-sub : goal.returns-else-hires-clause-sub
unfolding sub_pixel
returns-else-hires-clause-sub c = λ x h.
    let p = c.args.p.now in
    let layer = c.args.layer in
    let named = (screens_of p.registers layer).arithmetic in
    let has : has_background p.registers.mode layer ≡ true = c.is_shown.ensures.has cc in
    let mode : (p.registers.mode == 7) ≡ false =
    ap (λ (q : Registers). q.mode == 7) (sym c.registers-r.ensures) ∙ sym c.rotates.ensures ∙ c.if-rotates.false in
    let low : c.base-low.result ≡ rank_base (layer_rank p.registers layer 0) named = cc in
    let high : c.base-high.result ≡ rank_base (layer_rank p.registers layer 1) named = cc in
    let alike : is_hires p.registers.mode ≡ false = cc in
    c.lay_layer-else-hires.ensures.sub x h
    ∙ ap (λ (i : RankedPixel). nearest (ranked_pixel_at c.args.sub.now x) (on_sub p.registers layer x i))
    (tiles_pixel p layer c.args.row (2 * x + 1) _ _ c.base-low.result c.base-high.result c.requires.last has mode
    low high (c.ranked_row.ensures.ranks x h) (c.ranked_row.ensures.numbers x h)
    ∙ ap (ranked_pixel_of p layer) (any_pair p layer c.args.row x c.requires.last has alike))
