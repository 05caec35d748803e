use Rattle.std.proofs.Common.{◌≡◌, ◌++◌}
use Rattle.film_avi.specs.Shown.{turned_rows}
use Rattle.film_avi.proofs.shown.push_turned.Given as goal

abbrev pub invariant-loop-row : goal.invariant-loop-row
invariant-loop-row l = l.out.items ≡ l.initial.out.items ++ turned_rows l.frame l.row
