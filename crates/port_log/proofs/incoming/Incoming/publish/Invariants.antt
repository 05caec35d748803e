use Rattle.std.proofs.Common.{◌≡◌, length}
use Rattle.std.specs.List.{AllByRecursion}
use Rattle.port_log.specs.Kept.{waiting_at, latches_at}
use Rattle.port_log.specs.Held.{HasPort}
use Rattle.port_log.proofs.incoming.Incoming.publish.Given as goal

abbrev pub invariant-moving : goal.invariant-moving
invariant-moving l = record {
  ports : AllByRecursion HasPort l.self-inside.waiting.items;
  room : l.self-inside.waiting.capacity ≡ 4096;
  published : l.self-inside.clock ≡ l.clock;
  cleared : l.self-inside.cleared ≡ l.fn.self.cleared;
  waiting : waiting_at l.side l.clock l.self-inside.waiting.items
      ≡ waiting_at l.side l.clock l.fn.self.waiting;
  latches : latches_at l.side l.clock l.fn.self.cleared l.self-inside.latches l.self-inside.waiting.items
      ≡ latches_at l.side l.clock l.fn.self.cleared l.fn.self.latches l.fn.self.waiting;
}

abbrev pub decreases-moving : goal.decreases-moving
decreases-moving l = length l.self-inside.waiting.items
