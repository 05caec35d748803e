use Rattle.std.proofs.Common.{rules}
use Rattle.film_avi.proofs.ShownLemmas.{turned_row-none, turned_row-more, begun, grown}
use Rattle.film_avi.proofs.shown.push_turned_row.Goals as goal

pub loop-column-init : goal.loop-column-init
loop-column-init c = begun _ _ (turned_row-none _)

pub loop-column-preserved : goal.loop-column-preserved
loop-column-preserved c = grown _ _ _ _ _ _ c.loop-column.invariant (search rules) (turned_row-more c.args.row.now c.loop-column.column)
