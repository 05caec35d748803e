-- The slivers of the last objects are gathered, from the last to the first.
use Rattle.std.proofs.Common.{◌≡◌, ◌-◌, take, drop, length, nat_lt}
use Rattle.ppu_objects.specs.Slivers.{all_slivers}
use Rattle.ppu_objects.proofs.slivers.gather_in_time.Given as goal

abbrev pub invariant-loop-j : goal.invariant-loop-j
invariant-loop-j l = record {
  items : l.list.items ≡ take 34 (all_slivers l.code (drop (length l.objects - l.j) l.objects));
  more : l.more ≡ nat_lt 34 (length (all_slivers l.code (drop (length l.objects - l.j) l.objects)));
}
