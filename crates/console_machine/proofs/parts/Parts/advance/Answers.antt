use Rattle.std.proofs.Common.{rules, refl, arith}
use Rattle.std.proofs.lemmas.Grind.{common_steps}
use Rattle.side_law.specs.declared.ports.Stop.TheVariants.{Refused}
use Rattle.side_law.proofs.Gone.{way_after, stops_after}
use Rattle.console_steps.specs.ConsoleState.{console_moves}
use Rattle.console_machine.specs.Parts.{value_of}
use Rattle.console_machine.specs.Side.{StandsAt}
use Rattle.console_machine.proofs.parts.Parts.advance.Goals as goal

pub returns-then-go_on-clause-gone : goal.returns-then-go_on-clause-gone
returns-then-go_on-clause-gone g c = λ w p h stand.
    let P = g.P.Ports in
    let on = c.go_on.new in
    let was = c.steps.invariant.gone w p h stand in
    stops_after console_moves P.calls c.args.until (StandsAt (value_of c.steps.self)) (StandsAt (value_of on.self)) (P.stands c.steps.ports) (P.stands on.ports)
    c.args.self.now.waiting.items c.steps.self.waiting.items on.self.waiting.items w p was 1024 65536 Refused
    (c.if-go_on.ensures.refused refl was.to was.ports was.now_stands was.ports_stand)

pub returns-in-Some-clause-gone : goal.returns-in-Some-clause-gone
returns-in-Some-clause-gone g c = λ w p h stand.
    let P = g.P.Ports in
    let on = c.go_on.new in
    let next = c.step_next.new in
    let was = c.steps.invariant.gone w p h stand in
    let first = way_after console_moves P.calls c.args.until (StandsAt (value_of c.steps.self)) (StandsAt (value_of on.self)) (P.stands c.steps.ports) (P.stands on.ports)
    c.args.self.now.waiting.items c.steps.self.waiting.items on.self.waiting.items w p was
    (c.if-go_on.ensures.gone refl was.to was.ports was.now_stands was.ports_stand) in
    stops_after console_moves P.calls c.args.until (StandsAt (value_of on.self)) (StandsAt (value_of next.self)) (P.stands on.ports) (P.stands next.ports)
    c.args.self.now.waiting.items on.self.waiting.items next.self.waiting.items w p first 1024 65536 c.in-Some.stop
    (c.in-Some.ensures.stopped first.to first.ports first.now_stands first.ports_stand)

pub steps-preserved : goal.steps-preserved
steps-preserved g c = record {
  gone = λ w p h stand.
      let P = g.P.Ports in
      let on = c.go_on.new in
      let next = c.step_next.new in
      let was = c.steps.invariant.gone w p h stand in
      let first = way_after console_moves P.calls c.args.until (StandsAt (value_of c.steps.self)) (StandsAt (value_of on.self)) (P.stands c.steps.ports) (P.stands on.ports)
      c.args.self.now.waiting.items c.steps.self.waiting.items on.self.waiting.items w p was
      (c.if-go_on.ensures.gone refl was.to was.ports was.now_stands was.ports_stand) in
      way_after console_moves P.calls c.args.until (StandsAt (value_of on.self)) (StandsAt (value_of next.self)) (P.stands on.ports) (P.stands next.ports)
      c.args.self.now.waiting.items on.self.waiting.items next.self.waiting.items w p first
      (c.in_default.ensures.gone refl first.to first.ports first.now_stands first.ports_stand);
  keeps = search rules;
  forward = grind (arith, common_steps);
  fits = grind (arith, common_steps);
  in_order = search rules;
  times = search rules;
}
