-- A dot of the row is that of its mosaic block's first, which is the one of its column.
use Rattle.std.proofs.Common.{◌≡◌, ◌+◌, ◌/◌, ◌%◌, ◌<◌, ◌≤◌, ap, sym, refl, ◌∙◌, arith}
use Rattle.ppu_regs.specs.Reads.{bit_of}
use Rattle.ppu_regs.specs.Dots.{rank_of}
use Rattle.ppu_regs.specs.Picture.{background_of}
use Rattle.ppu_regs.specs.declared.dots.LayerDot.{LayerDot}
use Rattle.ppu_regs.specs.declared.registers.Background.{Background}
use Rattle.ppu_regs.specs.declared.registers.Registers.{Registers}
use Rattle.ppu_tiles.specs.Backgrounds.{block_start}
use Rattle.ppu_tiles.specs.Columns.{base_of}
use Rattle.ppu_tiles.specs.Modes.{is_hires, has_offsets}
use Rattle.ppu_tiles.specs.Columns.{attribute_of}
use Rattle.ppu_tiles.proofs.ColumnSteps.{row_layer_dot, block_before, odd_small}
use Rattle.ppu_tiles.proofs.SmallSteps.{small_pixel, small_rank, small_number}
use Rattle.ppu_tiles.proofs.small_tiles.small_row.Goals as goal

pub returns-clause-ranks : goal.returns-clause-ranks
returns-clause-ranks c = λ x h.
    let r = c.registers-r.result.now in
    let b = c.args.b.now in
    let before : block_start r b x ≤ x = block_before r b x in
    let at = block_start r b x + b.scroll_x % 8 in
    let first : block_start r b x < 256 = omega (arith, before, h) in
    let inside : at < 264 = omega (arith, before, h) in
    let within : at / 8 < 33 = omega (arith, before, h) in
    let fine : b.scroll_x % 8 ≡ (background_of c.args.p.now.registers c.args.layer).scroll_x % 8 =
    ap (λ (b : Background). b.scroll_x % 8) c.requires.background in
    let lores = ap is_hires (sym c.requires.mode) ∙ c.requires.halves in
    let plain = ap has_offsets (sym c.requires.mode) ∙ c.requires.offsets in
    let value =
    small_pixel c.args.p.now b c.args.layer c.block-y.result (bit_of c.args.odd) at _ c.args.bits c.own-own.result
    c.put_pixels.new.values c.take_words.new.words c.take_entries.new.entries c.requires.background
    c.own-own.ensures.scroll c.requires.bits c.requires.small lores plain refl (c.take_entries.ensures (at / 8) within)
    (c.take_words.ensures.words (at / 8) within) (c.put_pixels.ensures c.args.p.now.vram c.requires.step at inside) in
    let attribute =
    c.spread.ensures at inside ∙ c.take_attributes.ensures (at / 8) within
    ∙ ap (λ e. attribute_of c.args.mode c.args.layer c.args.bits e) (c.take_entries.ensures (at / 8) within) in
    c.take_blocks.ensures x h
    ∙ c.rank_pixels.ensures.ranks (block_start r b x) first
    ∙ small_rank c.args.p.now c.args.layer c.block-y.result (bit_of c.args.odd) c.args.low c.args.high
    (block_start r b x) (b.scroll_x % 8) c.args.mode c.args.bits _ _ (odd_small c.args.odd) c.requires.last
    c.requires.few c.requires.bits fine value attribute
    ∙ ap (λ (d : LayerDot). rank_of (base_of c.args.low c.args.high d) d)
    (row_layer_dot c.args.p.now c.args.layer c.args.row x (bit_of c.args.odd) c.block-y.result r b
    (odd_small c.args.odd) c.registers-r.ensures
    (c.requires.background ∙ ap (λ (q : Registers). background_of q c.args.layer) (sym c.registers-r.ensures))
    c.block-y.ensures.start)

pub returns-clause-numbers : goal.returns-clause-numbers
returns-clause-numbers c = λ x h.
    let r = c.registers-r.result.now in
    let b = c.args.b.now in
    let before : block_start r b x ≤ x = block_before r b x in
    let at = block_start r b x + b.scroll_x % 8 in
    let first : block_start r b x < 256 = omega (arith, before, h) in
    let inside : at < 264 = omega (arith, before, h) in
    let within : at / 8 < 33 = omega (arith, before, h) in
    let fine : b.scroll_x % 8 ≡ (background_of c.args.p.now.registers c.args.layer).scroll_x % 8 =
    ap (λ (b : Background). b.scroll_x % 8) c.requires.background in
    let lores = ap is_hires (sym c.requires.mode) ∙ c.requires.halves in
    let plain = ap has_offsets (sym c.requires.mode) ∙ c.requires.offsets in
    let value =
    small_pixel c.args.p.now b c.args.layer c.block-y.result (bit_of c.args.odd) at _ c.args.bits c.own-own.result
    c.put_pixels.new.values c.take_words.new.words c.take_entries.new.entries c.requires.background
    c.own-own.ensures.scroll c.requires.bits c.requires.small lores plain refl (c.take_entries.ensures (at / 8) within)
    (c.take_words.ensures.words (at / 8) within) (c.put_pixels.ensures c.args.p.now.vram c.requires.step at inside) in
    let attribute =
    c.spread.ensures at inside ∙ c.take_attributes.ensures (at / 8) within
    ∙ ap (λ e. attribute_of c.args.mode c.args.layer c.args.bits e) (c.take_entries.ensures (at / 8) within) in
    c.take_blocks-2.ensures x h
    ∙ c.rank_pixels.ensures.numbers (block_start r b x) first
    ∙ small_number c.args.p.now c.args.layer c.block-y.result (bit_of c.args.odd)
    (block_start r b x) (b.scroll_x % 8) c.args.mode c.args.bits _ _ (odd_small c.args.odd) c.requires.last
    c.requires.mode c.requires.bits fine value attribute
    ∙ ap (λ (d : LayerDot). d.number)
    (row_layer_dot c.args.p.now c.args.layer c.args.row x (bit_of c.args.odd) c.block-y.result r b
    (odd_small c.args.odd) c.registers-r.ensures
    (c.requires.background ∙ ap (λ (q : Registers). background_of q c.args.layer) (sym c.registers-r.ensures))
    c.block-y.ensures.start)
