-- The objects among those that were looked at, the first 32 of them, and whether there are more.
use Rattle.std.proofs.Common.{◌≡◌, ◌*◌, take, length, nat_lt}
use Rattle.ppu_objects.specs.Objects.{on_row}
use Rattle.ppu_objects.proofs.objects.note_near.Given as goal

abbrev pub invariant-loop-g : goal.invariant-loop-g
invariant-loop-g l = record {
  items : l.list.items ≡ take 32 (on_row l.p l.row (8 * l.g));
  more : l.more ≡ nat_lt 32 (length (on_row l.p l.row (8 * l.g)));
}
