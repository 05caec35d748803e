use Rattle.std.proofs.Common.{rules}
use Rattle.film_avi.proofs.ShownLemmas.{turned_rows-none, turned_rows-more, begun, grown}
use Rattle.film_avi.proofs.shown.push_turned.Goals as goal

pub loop-row-init : goal.loop-row-init
loop-row-init c = begun _ _ (turned_rows-none _)

pub loop-row-preserved : goal.loop-row-preserved
loop-row-preserved c = grown _ _ _ _ _ _ c.loop-row.invariant (search rules) (turned_rows-more c.args.frame.now c.loop-row.row)
