use Rattle.std.proofs.Common.{◌≡◌, ◌+◌, ◌*◌, ◌++◌, vec_len}
use Rattle.film_formats.specs.Mixed.{marked_row}
use Rattle.film_formats.proofs.mixed.push_marked_row.Given as goal

abbrev pub invariant-loop-column : goal.invariant-loop-column
invariant-loop-column l = record {
  items : l.out.items ≡ l.initial.out.items ++ marked_row l.first l.second l.column;
  len : vec_len l.out ≡ vec_len l.initial.out + 3 * l.column;
}
