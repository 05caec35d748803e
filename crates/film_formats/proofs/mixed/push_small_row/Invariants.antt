use Rattle.std.proofs.Common.{◌≡◌, ◌++◌}
use Rattle.film_formats.specs.Mixed.{small_row}
use Rattle.film_formats.proofs.mixed.push_small_row.Given as goal

abbrev pub invariant-loop-column : goal.invariant-loop-column
invariant-loop-column l = l.out.items ≡ l.initial.out.items ++ small_row l.upper l.lower l.column
