-- The first slivers of the object are added behind what was there.
use Rattle.std.proofs.Common.{◌≡◌, List, ◌++◌, take, length, nat_lt}
use Rattle.ppu_objects.specs.declared.slivers.Sliver.{Sliver}
use Rattle.ppu_objects.specs.Slivers.{first_slivers}
use Rattle.ppu_objects.proofs.slivers.add_slivers.Given as goal

abbrev pub invariant-loop-column : goal.invariant-loop-column
invariant-loop-column l = record {
  items : (xs : List Sliver) → l.initial.list.items ≡ take 34 xs → l.list.items ≡ take 34 (xs ++ first_slivers l.o l.column);
  more : (xs : List Sliver) → l.initial.list.items ≡ take 34 xs → l.over ≡ nat_lt 34 (length xs) →
      l.more ≡ nat_lt 34 (length (xs ++ first_slivers l.o l.column));
}
