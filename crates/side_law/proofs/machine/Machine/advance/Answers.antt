use Rattle.std.proofs.Common.{rules, ◌≡◌, inl, inr, refl, sym, subst, arith}
use Rattle.side_law.specs.Moves.{taken}
use Rattle.std.proofs.lemmas.Grind.{common_steps}
use Rattle.side_law.specs.Gone.{IsFull}
use Rattle.side_law.proofs.Gone.{goes_silently, goes_emitting, way_to, way_on, stops_until, stops_refused, stops_emitted}
use Rattle.side_law.proofs.machine.Machine.advance.Goals.{then-at-room-via-then-at-room, then-at-room-via-else-at-room+then-not-has_room}
use Rattle.side_law.proofs.machine.Machine.advance.Goals as goal

pub returns-then-at-room-clause-gone : goal.returns-then-at-room-clause-gone
returns-then-at-room-clause-gone g c = λ m p stands stand.
    let M = g.Self.Machine in
    let P = g.P.Ports in
    let way = c.steps.invariant.gone m p stands stand in
    let is = c.stamp-at.ensures.of_the_state way.to way.now_stands in
    let room = c.room.ensures way.ports way.ports_stand in
    let full : IsFull M.moves P.calls c.args.until M.MOST M.CAP (way_to M.moves P.calls c.args.until (M.stands c.steps.self) (P.stands c.steps.ports) (M.waiting c.args.self.now) (M.waiting c.steps.self) m p way) =
    elim c.then-at-room.branch [
      | then-at-room-via-then-at-room w ↦ inl (omega (arith, w.if-at-room.true, is, subst (λ n. P.calls.room way.ports n ≡ c.room.result) c.pending-waited.ensures room))
      | then-at-room-via-else-at-room+then-not-has_room w ↦ inr (grind (arith, w.if-not-has_room.ensures))
    ] in
    stops_until M.moves P.calls c.args.until (M.stands c.steps.self) (P.stands c.steps.ports) (M.waiting c.args.self.now) (M.waiting c.steps.self) m p M.MOST M.CAP way (inr full)

pub returns-in_default-clause-gone : goal.returns-in_default-clause-gone
returns-in_default-clause-gone g c = λ m p stands stand.
    let M = g.Self.Machine in
    let P = g.P.Ports in
    let way = c.steps.invariant.gone m p stands stand in
    stops_refused M.moves P.calls c.args.until (M.stands c.steps.self) (P.stands c.steps.ports) (M.waiting c.args.self.now) (M.waiting c.steps.self) m p M.MOST M.CAP
    c.stamp-at.result c.act.result (P.stands c.call.new.self) way (c.stamp-at.ensures.of_the_state way.to way.now_stands) (c.act.ensures.of_the_state way.to way.now_stands)
    (omega (arith, c.steps-test.true, c.stamp.ensures.stamp, c.stamp-at.ensures.stamp)) (c.in_default.ensures.refused refl way.ports way.ports_stand)

pub returns-then-waits-waited-clause-gone : goal.returns-then-waits-waited-clause-gone
returns-then-waits-waited-clause-gone g c = λ m p stands stand.
    let M = g.Self.Machine in
    let P = g.P.Ports in
    let way = c.steps.invariant.gone m p stands stand in
    let is = c.stamp-at.ensures.of_the_state way.to way.now_stands in
    let acts = c.act.ensures.of_the_state way.to way.now_stands in
    let called = c.in-Some.ensures.answered way.ports way.ports_stand in
    let told = c.emitted.ensures.told called.to called.now_stands in
    let room = c.room.ensures way.ports way.ports_stand in
    let at = way_to M.moves P.calls c.args.until (M.stands c.steps.self) (P.stands c.steps.ports) (M.waiting c.args.self.now) (M.waiting c.steps.self) m p way in
    let goes = goes_emitting M.moves P.calls c.args.until c.stamp-at.result c.act.result at c.in-Some.got called.to (M.waiting c.step.new.self) is acts
    (omega (arith, c.steps-test.true, c.stamp.ensures.stamp, c.stamp-at.ensures.stamp)) (search rules) called.led (c.step.ensures.emits way.to way.now_stands)
    told.to c.pending-waits.result (sym c.pending-waits.ensures) (omega (arith, c.if-waits-waited.true, c.pending-waited.ensures))
    (omega (arith, c.if-at-room.false, subst (λ n. P.calls.room way.ports n ≡ c.room.result) c.pending-waited.ensures room)) told.led in
    stops_emitted M.moves P.calls c.args.until (M.stands c.steps.self) (P.stands c.steps.ports) (M.waiting c.args.self.now) (M.waiting c.steps.self) m p M.MOST M.CAP
    (M.stands c.step.new.self) (P.stands c.emitted.new.self) (M.waiting c.step.new.self) c.stamp-at.result way (M.moves.next way.to (taken (M.moves.act way.to) c.in-Some.got)) told.to
    goes (c.step.ensures.next way.to way.now_stands) told.now_stands is (omega (arith, c.if-waits-waited.true, c.pending-waited.ensures, c.pending-waits.ensures))

pub steps-preserved : goal.steps-preserved
steps-preserved g c = record {
  gone = λ m p stands stand.
      let M = g.Self.Machine in
      let P = g.P.Ports in
      let way = c.steps.invariant.gone m p stands stand in
      let is = c.stamp-at.ensures.of_the_state way.to way.now_stands in
      let acts = c.act.ensures.of_the_state way.to way.now_stands in
      let called = c.in-Some.ensures.answered way.ports way.ports_stand in
      let at = way_to M.moves P.calls c.args.until (M.stands c.steps.self) (P.stands c.steps.ports) (M.waiting c.args.self.now) (M.waiting c.steps.self) m p way in
      let goes = goes_silently M.moves P.calls c.args.until c.stamp-at.result c.act.result at c.in-Some.got called.to (M.waiting c.step.new.self) is acts
      (omega (arith, c.steps-test.true, c.stamp.ensures.stamp, c.stamp-at.ensures.stamp)) (search rules) called.led (c.step.ensures.emits way.to way.now_stands)
      (omega (arith, c.if-waits-waited.false, c.pending-waited.ensures, c.pending-waits.ensures)) in
      way_on M.moves P.calls c.args.until (M.stands c.steps.self) (P.stands c.steps.ports) (M.waiting c.args.self.now) (M.waiting c.steps.self) m p
      (M.stands c.step.new.self) (P.stands c.call.new.self) (M.waiting c.step.new.self) way (M.moves.next way.to (taken (M.moves.act way.to) c.in-Some.got)) called.to
      goes (c.step.ensures.next way.to way.now_stands) called.now_stands;
  forward = grind (arith, common_steps);
  fits = grind (arith, common_steps);
  in_order = grind (arith, common_steps);
  times = search rules;
  region = search rules;
}

pub returns-clause-gone : goal.returns-clause-gone
returns-clause-gone g c = λ m p stands stand.
    let M = g.Self.Machine in
    let P = g.P.Ports in
    let way = c.steps.invariant.gone m p stands stand in
    stops_until M.moves P.calls c.args.until (M.stands c.steps.self) (P.stands c.steps.ports) (M.waiting c.args.self.now) (M.waiting c.steps.self) m p M.MOST M.CAP way
    (inl (omega (arith, c.steps-test.false, c.stamp.ensures.of_the_state way.to way.now_stands)))
