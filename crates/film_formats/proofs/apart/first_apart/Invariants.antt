use Rattle.std.proofs.Common.{◌≡◌, take}
use Rattle.film_formats.proofs.apart.first_apart.Given as goal

abbrev pub invariant-loop-at : goal.invariant-loop-at
invariant-loop-at l = take l.at l.a ≡ take l.at l.b
