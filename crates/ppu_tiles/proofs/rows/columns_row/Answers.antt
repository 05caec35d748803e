-- A dot of the row is that of its mosaic block's first, which is the one of its column.
use Rattle.std.proofs.Common.{◌≡◌, ◌+◌, ◌%◌, ◌<◌, ◌≤◌, ap, ◌∙◌, arith}
use Rattle.ppu_regs.specs.Reads.{bit_of}
use Rattle.ppu_regs.specs.Dots.{rank_of}
use Rattle.ppu_regs.specs.Picture.{background_of}
use Rattle.ppu_regs.specs.declared.dots.LayerDot.{LayerDot}
use Rattle.ppu_regs.specs.declared.registers.Registers.{Registers}
use Rattle.ppu_regs.specs.declared.registers.Background.{Background}
use Rattle.ppu_tiles.specs.Backgrounds.{block_start}
use Rattle.ppu_tiles.specs.Columns.{base_of}
use Rattle.ppu_tiles.proofs.ColumnSteps.{row_rank, row_number, row_layer_dot, block_before, odd_small}
use Rattle.ppu_tiles.proofs.rows.columns_row.Goals as goal

pub returns-clause-ranks : goal.returns-clause-ranks
returns-clause-ranks c = λ x h.
    let r = c.registers-r.result.now in
    let b = c.background-b.result.now in
    let before : block_start r b x ≤ x = block_before r b x in
    let at = block_start r b x + b.scroll_x % 8 in
    let first : block_start r b x < 256 = omega (arith, before, h) in
    let inside : at < 264 = omega (arith, before, h) in
    let from : b.scroll_x % 8 ≡ (background_of c.args.p.now.registers c.args.layer).scroll_x % 8 =
    ap (λ (q : Background). q.scroll_x % 8) c.background-b.ensures
    ∙ ap (λ (q : Registers). (background_of q c.args.layer).scroll_x % 8) c.registers-r.ensures in
    c.take_blocks.ensures x h
    ∙ c.rank_pixels.ensures.ranks (block_start r b x) first
    ∙ row_rank c.args.p.now c.args.layer c.block-y.result (bit_of c.args.odd) c.args.low c.args.high
    (block_start r b x) (b.scroll_x % 8) c.paint.new.values c.paint.new.bases (odd_small c.args.odd) from
    (c.paint.ensures.values at inside) (c.paint.ensures.bases at inside)
    ∙ ap (λ (d : LayerDot). rank_of (base_of c.args.low c.args.high d) d)
    (row_layer_dot c.args.p.now c.args.layer c.args.row x (bit_of c.args.odd) c.block-y.result r b
    (odd_small c.args.odd) c.registers-r.ensures c.background-b.ensures c.block-y.ensures.start)

pub returns-clause-numbers : goal.returns-clause-numbers
returns-clause-numbers c = λ x h.
    let r = c.registers-r.result.now in
    let b = c.background-b.result.now in
    let before : block_start r b x ≤ x = block_before r b x in
    let at = block_start r b x + b.scroll_x % 8 in
    let first : block_start r b x < 256 = omega (arith, before, h) in
    let inside : at < 264 = omega (arith, before, h) in
    let from : b.scroll_x % 8 ≡ (background_of c.args.p.now.registers c.args.layer).scroll_x % 8 =
    ap (λ (q : Background). q.scroll_x % 8) c.background-b.ensures
    ∙ ap (λ (q : Registers). (background_of q c.args.layer).scroll_x % 8) c.registers-r.ensures in
    c.take_blocks-2.ensures x h
    ∙ c.rank_pixels.ensures.numbers (block_start r b x) first
    ∙ row_number c.args.p.now c.args.layer c.block-y.result (bit_of c.args.odd) (block_start r b x)
    (b.scroll_x % 8) c.paint.new.values c.paint.new.firsts (odd_small c.args.odd) c.requires.last from
    (c.paint.ensures.values at inside) (c.paint.ensures.firsts at inside)
    ∙ ap (λ (d : LayerDot). d.number)
    (row_layer_dot c.args.p.now c.args.layer c.args.row x (bit_of c.args.odd) c.block-y.result r b
    (odd_small c.args.odd) c.registers-r.ensures c.background-b.ensures c.block-y.ensures.start)
