use Rattle.std.proofs.Common.{rules}
use Rattle.film_formats.proofs.RowLemmas.{shown-none, shown-more, begun, grown}
use Rattle.film_formats.proofs.rows.push_row.Goals as goal

pub loop-column-init : goal.loop-column-init
loop-column-init c = record { items = begun _ _ (shown-none _); len = search rules }

pub loop-column-preserved : goal.loop-column-preserved
loop-column-preserved c = record {
  items = grown _ _ _ _ _ _ c.loop-column.invariant.items (search rules) (shown-more c.args.row.now c.loop-column.column);
  len = search rules;
}
