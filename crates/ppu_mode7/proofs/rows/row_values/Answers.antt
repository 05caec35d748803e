-- A pixel of the row is that of its block's first column.
use Rattle.std.proofs.Common.{◌+◌, ◌-◌, ◌%◌, ◌∙◌, arith}
use Rattle.ppu_mode7.proofs.Values.{value_in_block, value_alone}
use Rattle.ppu_mode7.proofs.rows.row_values.Goals as goal

pub returns-then-background : goal.returns-then-background
returns-then-background c x h =
    c.spread_blocks.ensures x h ∙ c.turned_values.ensures (x - x % (c.registers-r.result.now.mosaic + 1)) (omega arith)
    ∙ value_in_block c.args.p.now c.args.layer c.args.row x c.registers-r.result.now c.background.result.now c.line_at.result
    c.registers-r.ensures c.background.ensures c.line_at.ensures c.if-background.true

pub returns-else-background : goal.returns-else-background
returns-else-background c x h =
    c.turned_values.ensures x h
    ∙ value_alone c.args.p.now c.args.layer c.args.row x c.registers-r.result.now c.background.result.now c.line_at.result
    c.registers-r.ensures c.background.ensures c.line_at.ensures c.if-background.false
