use Rattle.std.proofs.Common.{None, get_or, drop, ◌+◌, ◌∙◌, ap, sym}
use Rattle.port_log.specs.Kept.{byte_by}
use Rattle.port_log.proofs.Looking.{in-order-rest, looked-at, looked-enough, looked-none}
use Rattle.port_log.proofs.incoming.Incoming.found.Goals as goal

pub returns-then-not-is_seen : goal.returns-then-not-is_seen
returns-then-not-is_seen c =
    rw (← c.self.view_is)
    (sym (looked-enough c.args.side (get_or c.self.inside.cleared c.args.port None) c.args.port c.args.at
    c.loop-place.byte c.self.inside.waiting.items c.loop-place.place c.in-Some.write.now
    (sym c.in-Some.ensures) c.loop-place.invariant.order (sym c.if-not-is_seen.ensures))
    ∙ c.loop-place.invariant.so_far)

pub returns-in-None : goal.returns-in-None
returns-in-None c =
    rw (← c.self.view_is)
    (sym (looked-none c.args.side (get_or c.self.inside.cleared c.args.port None) c.args.port c.args.at
    c.loop-place.byte c.self.inside.waiting.items c.loop-place.place (sym c.in-None.ensures))
    ∙ c.loop-place.invariant.so_far)

pub loop-place-preserved : goal.loop-place-preserved
loop-place-preserved c = record {
  so_far =
      ap
      (λ b.
      byte_by c.args.side (get_or c.self.inside.cleared c.args.port None) c.args.port c.args.at b
      (drop (c.loop-place.place + 1) c.self.inside.waiting.items))
      c.byte_after-byte.ensures
      ∙ sym (looked-at c.args.side (get_or c.self.inside.cleared c.args.port None) c.args.port c.args.at
      c.loop-place.byte c.self.inside.waiting.items c.loop-place.place c.in-Some.write.now (sym c.in-Some.ensures))
      ∙ c.loop-place.invariant.so_far;
  order =
      in-order-rest c.self.inside.waiting.items c.loop-place.place c.in-Some.write.now (sym c.in-Some.ensures)
      c.loop-place.invariant.order;
}
