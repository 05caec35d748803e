use Rattle.std.proofs.Common.{refl}
use mathlib.Core.Logic.{∥∥₁_map}
use Rattle.side_law.proofs.Gone.{way_none}
use Rattle.console_steps.specs.ConsoleState.{console_moves}
use Rattle.console_machine.specs.PortAccesses.{IsBefore}
use Rattle.console_machine.specs.Parts.{value_of}
use Rattle.console_machine.specs.Side.{StandsAt}
use Rattle.console_machine.proofs.PortAccesses.{before_stands, stands_before, way_told, held_told}
use Rattle.console_machine.proofs.parts.Parts.run_over.Goals as goal

pub returns-then-not-is_wired-clause-gone : goal.returns-then-not-is_wired-clause-gone
returns-then-not-is_wired-clause-gone g c = λ done w p h stand.
    let P = g.P.Ports in
    way_none console_moves P.calls c.args.until (StandsAt (value_of c.args.self.now)) (P.stands c.args.ports.now) c.args.self.now.waiting.items c.args.self.now.waiting.items w p h stand

pub returns-clause-gone : goal.returns-clause-gone
returns-clause-gone g c = λ done w p h stand.
    let P = g.P.Ports in
    let v = c.args.self.now in
    let goal = c.args.goal in
    let over = c.make_over-refused in
    let before = before_stands v.region goal v.cpu v.bus v.waiting.items v.stamp w h c.requires.calm (c.if-not-is_wired.ensures refl) c.requires.goal in
    way_told P.calls c.args.until (IsBefore v.region goal over.new.cpu over.new.bus) (StandsAt (value_of (record v { cpu = over.new.cpu; bus = over.new.bus; stamp = c.stamp_before-self.result }))) (P.stands over.new.ports)
    v.waiting.items v.waiting.items w p (λ to b. stands_before v.region goal over.new.cpu over.new.bus v.waiting.items c.stamp_before-self.result to b c.stamp_before-self.ensures)
    (over.ensures.made done c.args.until v.waiting.items w p c.requires.soon before stand)

pub returns-clause-refused : goal.returns-clause-refused
returns-clause-refused g c = λ held w p h stand.
    let P = g.P.Ports in
    let v = c.args.self.now in
    let goal = c.args.goal in
    let over = c.make_over-refused in
    let before = before_stands v.region goal v.cpu v.bus v.waiting.items v.stamp w h c.requires.calm (c.if-not-is_wired.ensures refl) c.requires.goal in
    held_told P.calls c.args.until (IsBefore v.region goal over.new.cpu over.new.bus) (StandsAt (value_of (record v { cpu = over.new.cpu; bus = over.new.bus; stamp = c.stamp_before-self.result }))) (P.stands over.new.ports)
    v.waiting.items v.waiting.items w p (λ to b. stands_before v.region goal over.new.cpu over.new.bus v.waiting.items c.stamp_before-self.result to b c.stamp_before-self.ensures)
    (over.ensures.refused held c.args.until v.waiting.items w p c.requires.soon before stand)

pub returns-clause-keeps : goal.returns-clause-keeps
returns-clause-keeps g c =
    let v = c.args.self.now in
    let goal = c.args.goal in
    let over = c.make_over-refused in (
      λ some. ∥∥₁_map some (λ p. (
          let before = before_stands v.region goal v.cpu v.bus v.waiting.items v.stamp p.0 p.1 c.requires.calm (c.if-not-is_wired.ensures refl) c.requires.goal in
          let to = over.ensures.some p.0 before in
          (to.0, stands_before v.region goal over.new.cpu over.new.bus v.waiting.items c.stamp_before-self.result to.0 to.1 c.stamp_before-self.ensures)
          )),
      refl,
      refl,
    )
