use Rattle.std.proofs.Common.{rules}
use Rattle.film_formats.proofs.RowLemmas.{begun, grown}
use Rattle.film_formats.proofs.MixedLemmas.{marked_row-none, marked_row-more}
use Rattle.film_formats.proofs.mixed.push_marked_row.Goals as goal

pub loop-column-init : goal.loop-column-init
loop-column-init c = record { items = begun _ _ (marked_row-none _ _); len = search rules }

pub loop-column-preserved : goal.loop-column-preserved
loop-column-preserved c = record {
  items = grown _ _ _ _ _ _ c.loop-column.invariant.items (search rules) (marked_row-more c.args.first.now c.args.second.now c.loop-column.column);
  len = search rules;
}
