use Rattle.std.proofs.Common.{◌∙◌, ap, sym}
use Rattle.port_log.specs.Kept.{waiting_at, latches_at}
use Rattle.port_log.proofs.Looking.{waits-still, latches-still, first-port, none-first}
use Rattle.port_log.proofs.incoming.Incoming.publish.Goals as goal

pub returns-then-not-is_seen : goal.returns-then-not-is_seen
returns-then-not-is_seen c =
    let i = c.moving.invariant in
    let first = sym c.in-Some.ensures in
    let hidden = sym c.if-not-is_seen.ensures in
    let waiting = sym (waits-still c.args.side c.args.clock c.moving.self-inside.waiting.items c.in-Some.write first hidden) ∙ i.waiting in
    let latches =
    sym (latches-still c.args.side c.args.clock c.moving.self-inside.waiting.items c.in-Some.write first c.args.self.now.cleared c.moving.self-inside.latches hidden)
    ∙ i.latches in
    let published = i.published in
    let cleared = i.cleared in
    cc

pub latch-requires : goal.latch-requires
latch-requires c =
    first-port c.args.side c.args.clock c.moving.self-inside.waiting.items c.in-Some.write (sym c.in-Some.ensures)
    c.moving.invariant.ports

pub returns-in-None : goal.returns-in-None
returns-in-None c =
    let i = c.moving.invariant in
    let none = none-first c.moving.self-inside.waiting.items (sym c.in-None.ensures) in
    let waiting = none ∙ sym (ap (waiting_at c.args.side c.args.clock) none) ∙ i.waiting in
    let latches =
    sym (ap (latches_at c.args.side c.args.clock c.args.self.now.cleared c.moving.self-inside.latches) none)
    ∙ i.latches in
    let published = i.published in
    let cleared = i.cleared in
    cc
