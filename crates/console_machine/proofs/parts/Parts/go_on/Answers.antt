use Rattle.std.proofs.Common.{ap, sym}
use Rattle.side_law.proofs.Gone.{way_after, stops_after}
use Rattle.side_law.specs.declared.ports.Stop.TheVariants.{Refused}
use Rattle.console_steps.specs.ConsoleState.{console_moves}
use Rattle.console_machine.specs.Parts.{value_of}
use Rattle.console_machine.specs.Side.{StandsAt}
use Rattle.console_machine.proofs.PortRuns.{quiet_way}
use Rattle.console_machine.proofs.parts.Parts.go_on.Goals as goal

pub returns-then-goal-until-clause-gone : goal.returns-then-goal-until-clause-gone
returns-then-goal-until-clause-gone g c = λ done w p h stand.
    let P = g.P.Ports in
    let first = quiet_way P.calls c.args.until (value_of c.look_on.new.self) (P.stands c.args.ports.now)
    c.args.self.now.waiting.items c.look_on.new.self.waiting.items w p (c.look_on.ensures.gone w h) (ap (λ b. b.items) (sym c.look_on.ensures.waiting)) stand in
    way_after console_moves P.calls c.args.until (StandsAt (value_of c.look_on.new.self)) (StandsAt (value_of c.hasten.new.self)) (P.stands c.args.ports.now) (P.stands c.args.ports.now)
    c.args.self.now.waiting.items c.look_on.new.self.waiting.items c.hasten.new.self.waiting.items w p first
    (quiet_way P.calls c.args.until (value_of c.hasten.new.self) (P.stands c.args.ports.now)
    c.look_on.new.self.waiting.items c.hasten.new.self.waiting.items first.to first.ports (c.hasten.ensures.gone first.to first.now_stands) (ap (λ b. b.items) (sym c.hasten.ensures.waiting)) first.ports_stand)

pub returns-clause-gone : goal.returns-clause-gone
returns-clause-gone g c = λ done w p h stand.
    let P = g.P.Ports in
    let first = quiet_way P.calls c.args.until (value_of c.look_on.new.self) (P.stands c.args.ports.now)
    c.args.self.now.waiting.items c.look_on.new.self.waiting.items w p (c.look_on.ensures.gone w h) (ap (λ b. b.items) (sym c.look_on.ensures.waiting)) stand in
    way_after console_moves P.calls c.args.until (StandsAt (value_of c.look_on.new.self)) (StandsAt (value_of c.run_over.new.self)) (P.stands c.args.ports.now) (P.stands c.run_over.new.ports)
    c.args.self.now.waiting.items c.look_on.new.self.waiting.items c.run_over.new.self.waiting.items w p first
    (c.run_over.ensures.gone done first.to first.ports first.now_stands first.ports_stand)

pub returns-clause-refused : goal.returns-clause-refused
returns-clause-refused g c = λ held w p h stand.
    let P = g.P.Ports in
    let first = quiet_way P.calls c.args.until (value_of c.look_on.new.self) (P.stands c.args.ports.now)
    c.args.self.now.waiting.items c.look_on.new.self.waiting.items w p (c.look_on.ensures.gone w h) (ap (λ b. b.items) (sym c.look_on.ensures.waiting)) stand in
    stops_after console_moves P.calls c.args.until (StandsAt (value_of c.look_on.new.self)) (StandsAt (value_of c.run_over.new.self)) (P.stands c.args.ports.now) (P.stands c.run_over.new.ports)
    c.args.self.now.waiting.items c.look_on.new.self.waiting.items c.run_over.new.self.waiting.items w p first 1024 65536 Refused
    (c.run_over.ensures.refused held first.to first.ports first.now_stands first.ports_stand)
