-- The pixels of a column are those of one tile, or of both halves of a wide one.
use Rattle.std.proofs.Common.{ap, sym, ◌∙◌}
use Rattle.ppu_regs.specs.Reads.{bit_of}
use Rattle.ppu_tiles.specs.Modes.{is_hires, tile_width}
use Rattle.ppu_tiles.proofs.ColumnSteps.{halves_put, line_put, odd_small}
use Rattle.ppu_tiles.proofs.columns.put_values.Goals as goal

pub returns-then-hires-clause-put : goal.returns-then-hires-clause-put
returns-then-hires-clause-put c =
    let wide = ap is_hires (sym c.requires.mode) ∙ sym c.hires.ensures ∙ c.if-hires.true in
    halves_put c.args.p.now c.args.b.now c.args.depth c.args.entry c.args.m (bit_of c.args.odd) c.args.py c.args.at _ _
    c.put_half.new.row _ (odd_small c.args.odd) wide (c.half_line.ensures c.args.p.now.vram c.requires.step)
    (c.half_line-then-hires.ensures c.args.p.now.vram c.requires.step) c.put_half.ensures.put c.put_half-then-hires.ensures.put
    c.put_half-then-hires.ensures.below

pub returns-else-hires-clause-put : goal.returns-else-hires-clause-put
returns-else-hires-clause-put c =
    let lores = ap is_hires (sym c.requires.mode) ∙ sym c.hires.ensures ∙ c.if-hires.false in
    line_put c.args.p.now c.args.b.now c.args.depth c.args.entry c.args.m (bit_of c.args.odd) c.args.py c.args.at c.width.result _ _
    lores (c.width.ensures.width ∙ ap (λ n. tile_width n c.args.b.now) c.requires.mode) (c.half_line-else-hires.ensures c.args.p.now.vram c.requires.step) c.put_bytes.ensures.put
