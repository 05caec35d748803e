use Rattle.std.proofs.Common.{rules}
use Rattle.film_formats.proofs.RowLemmas.{begun, grown}
use Rattle.film_formats.proofs.MixedLemmas.{small_row-none, small_row-more}
use Rattle.film_formats.proofs.mixed.push_small_row.Goals as goal

pub loop-column-init : goal.loop-column-init
loop-column-init c = begun _ _ (small_row-none _ _)

pub loop-column-preserved : goal.loop-column-preserved
loop-column-preserved c =
    grown _ _ _ _ _ _ c.loop-column.invariant (search rules) (small_row-more c.args.upper.now c.args.lower.now c.loop-column.column)
