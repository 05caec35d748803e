-- One more column is painted.
use Rattle.ppu_regs.specs.Reads.{bit_of}
use Rattle.ppu_tiles.specs.Columns.{column_value, column_base, column_first}
use Rattle.ppu_tiles.proofs.SmallSteps.{one_more}
use Rattle.ppu_tiles.proofs.rows.paint_columns.Goals as goal

pub loop-c-preserved : goal.loop-c-preserved
loop-c-preserved c = record {
  values_done = one_more (λ i j. column_value c.args.p.now c.args.layer c.args.y (bit_of c.args.odd) i j) _ _ _
      c.loop-c.invariant.values_done c.put_column.ensures.values c.put_column.ensures.values_below;
  bases_done = one_more (λ i j. column_base c.args.p.now c.args.layer c.args.y c.args.low c.args.high i) _ _ _
      c.loop-c.invariant.bases_done c.put_column.ensures.bases c.put_column.ensures.bases_below;
  firsts_done = one_more (λ i j. column_first c.args.p.now c.args.layer c.args.y i) _ _ _
      c.loop-c.invariant.firsts_done c.put_column.ensures.firsts c.put_column.ensures.firsts_below;
}
