use Rattle.std.proofs.Common.{◌≡◌, inl, inr, refl, sym, subst, arith}
use Rattle.side_law.specs.declared.ports.Stop.TheVariants.{Refused}
use Rattle.side_law.specs.Gone.{HasGone}
use Rattle.side_law.proofs.Gone.{way_none, stops_until, stops_refused}
use Rattle.console_steps.specs.ConsoleState.{console_moves}
use Rattle.console_machine.specs.AfterStep.{stamp_stands}
use Rattle.console_machine.specs.Parts.{value_of}
use Rattle.console_machine.specs.Side.{ConsoleValue, StandsAt}
use Rattle.console_machine.proofs.PortRuns.{way_emitting, way_silently}
use Rattle.console_machine.proofs.parts.Parts.step_next.Goals as goal

pub returns-then-at-until-clause-gone : goal.returns-then-at-until-clause-gone
returns-then-at-until-clause-gone g c = λ none w p h stand.
    let P = g.P.Ports in
    way_none console_moves P.calls c.args.until (StandsAt (value_of c.args.self.now)) (P.stands c.args.ports.now)
    c.args.self.now.waiting.items c.args.self.now.waiting.items w p h stand

pub returns-then-at-room-clause-stopped : goal.returns-then-at-room-clause-stopped
returns-then-at-room-clause-stopped g c = λ w p h stand.
    let P = g.P.Ports in
    let stands = StandsAt (value_of c.args.self.now) in
    let waited = c.args.self.now.waiting.items in
    let waits = c.args.self.now.waiting.items in
    let ran = way_none console_moves P.calls c.args.until stands (P.stands c.args.ports.now) waited waits w p h stand in
    let is = stamp_stands (value_of c.args.self.now) ran.to ran.now_stands in
    let room = subst (λ n. P.calls.room ran.ports n ≡ c.room.result) c.len-waited.ensures.len (c.room.ensures ran.ports ran.ports_stand) in
    stops_until console_moves P.calls c.args.until stands (P.stands c.args.ports.now) waited waits w p 1024 65536 ran
    (inr (inl (omega (arith, is, c.if-at-room.true, room))))

pub returns-then-waited-gt-CAPACITY-clause-stopped : goal.returns-then-waited-gt-CAPACITY-clause-stopped
returns-then-waited-gt-CAPACITY-clause-stopped g c = λ w p h stand.
    let P = g.P.Ports in
    let stands = StandsAt (value_of c.args.self.now) in
    let waited = c.args.self.now.waiting.items in
    let waits = c.args.self.now.waiting.items in
    let ran = way_none console_moves P.calls c.args.until stands (P.stands c.args.ports.now) waited waits w p h stand in
    stops_until console_moves P.calls c.args.until stands (P.stands c.args.ports.now) waited waits w p 1024 65536 ran
    (inr (inr (omega (arith, c.if-waited-gt-CAPACITY.true, c.len-waited.ensures.len))))

pub returns-then-not-step_over-clause-stopped : goal.returns-then-not-step_over-clause-stopped
returns-then-not-step_over-clause-stopped g c = λ w p h stand.
    let P = g.P.Ports in
    let stands = StandsAt (value_of c.args.self.now) in
    let waited = c.args.self.now.waiting.items in
    let waits = c.args.self.now.waiting.items in
    let have = P.stands c.step_over.new.ports in
    let ran = way_none console_moves P.calls c.args.until stands (P.stands c.args.ports.now) waited waits w p h stand in
    let R : ConsoleValue → Type 0 = λ x. HasGone console_moves P.calls c.args.until 1024 65536 (StandsAt x) have waited x.waiting Refused w p in
    subst R (sym (c.if-not-step_over.ensures.stays refl))
    (stops_refused console_moves P.calls c.args.until stands (P.stands c.args.ports.now) waited waits w p 1024 65536
    c.args.self.now.stamp c.act-act.result have ran (stamp_stands (value_of c.args.self.now) ran.to ran.now_stands) (c.act-act.ensures.value ran.to ran.now_stands)
    (omega (arith, c.if-at-until.false)) (c.if-not-step_over.ensures.refused refl ran.ports ran.ports_stand))

pub returns-then-waits-waited-clause-stopped : goal.returns-then-waits-waited-clause-stopped
returns-then-waits-waited-clause-stopped g c = λ w p h stand.
    let P = g.P.Ports in
    let stands = StandsAt (value_of c.args.self.now) in
    let waited = c.args.self.now.waiting.items in
    let waits = c.args.self.now.waiting.items in
    let ran = way_none console_moves P.calls c.args.until stands (P.stands c.args.ports.now) waited waits w p h stand in
    let room = subst (λ n. P.calls.room ran.ports n ≡ c.room.result) c.len-waited.ensures.len (c.room.ensures ran.ports ran.ports_stand) in
    way_emitting P.calls c.args.until stands (P.stands c.args.ports.now) waited waits c.step_over.new.self.waiting.items w p ran
    c.args.self.now.stamp c.act-act.result (value_of c.step_over.new.self) (P.stands c.step_over.new.ports)
    (c.if-not-step_over.ensures.taken refl ran.to ran.ports ran.now_stands ran.ports_stand)
    (stamp_stands (value_of c.args.self.now) ran.to ran.now_stands) (c.act-act.ensures.value ran.to ran.now_stands) (omega (arith, c.if-at-until.false))
    1024 65536 c.len-waits.result (P.stands c.emitted.new.self) (sym c.len-waits.ensures.len) (omega (arith, c.if-waits-waited.true, c.len-waited.ensures.len))
    (omega (arith, c.if-at-room.false, room)) c.emitted.ensures.told

pub returns-clause-gone : goal.returns-clause-gone
returns-clause-gone g c = λ none w p h stand.
    let P = g.P.Ports in
    let stands = StandsAt (value_of c.args.self.now) in
    let waited = c.args.self.now.waiting.items in
    let waits = c.args.self.now.waiting.items in
    let ran = way_none console_moves P.calls c.args.until stands (P.stands c.args.ports.now) waited waits w p h stand in
    way_silently P.calls c.args.until stands (P.stands c.args.ports.now) waited waits c.step_over.new.self.waiting.items w p ran
    c.args.self.now.stamp c.act-act.result (value_of c.step_over.new.self) (P.stands c.step_over.new.ports)
    (c.if-not-step_over.ensures.taken refl ran.to ran.ports ran.now_stands ran.ports_stand)
    (stamp_stands (value_of c.args.self.now) ran.to ran.now_stands) (c.act-act.ensures.value ran.to ran.now_stands) (omega (arith, c.if-at-until.false))
    (omega (arith, c.if-waits-waited.false, c.len-waits.ensures.len, c.len-waited.ensures.len))
