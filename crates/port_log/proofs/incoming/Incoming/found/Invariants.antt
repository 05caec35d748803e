use Rattle.std.proofs.Common.{◌≡◌, drop}
use Rattle.std.specs.Prelude.{slice_index}
use Rattle.port_log.specs.Kept.{byte_by}
use Rattle.port_log.specs.Held.{AreInOrder}
use Rattle.port_log.proofs.incoming.Incoming.found.Given as goal

abbrev pub invariant-loop-place : goal.invariant-loop-place
invariant-loop-place l = record {
  so_far : byte_by l.side l.clear l.port l.at l.byte (drop l.place l.self-inside.waiting.items)
      ≡ byte_by l.side l.clear l.port l.at (slice_index l.self-inside.latches l.port) l.self-inside.waiting.items;
  order : AreInOrder (drop l.place l.self-inside.waiting.items);
}
