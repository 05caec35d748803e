use Rattle.std.proofs.Common.{◌≡◌, ◌++◌}
use Rattle.film_avi.specs.Shown.{turned_row}
use Rattle.film_avi.proofs.shown.push_turned_row.Given as goal

abbrev pub invariant-loop-column : goal.invariant-loop-column
invariant-loop-column l = l.out.items ≡ l.initial.out.items ++ turned_row l.row l.column
