use Rattle.std.proofs.Common.{ap}
use mathlib.Core.Logic.{∥∥₁_map}
use Rattle.console_machine.specs.Parts.{value_of}
use Rattle.console_machine.specs.Playing.{console_pressed}
use Rattle.console_machine.proofs.Copies.{is_pressed}
use Rattle.console_machine.proofs.side.ConsoleSide.press.Goals as goal

pub invariant_of-self : goal.invariant_of-self
invariant_of-self c =
    let v = value_of c.self.inside.parts in (
      ∥∥₁_map c.self.invariant.0 (λ p. (console_pressed p.0 c.args.frame, is_pressed v (record v { rest = c.press.new.self }) c.args.frame p.0 (ap (λ r. record v { rest = r }) c.press.ensures.pressed) p.1)),
      c.self.invariant.1,
      c.self.invariant.2,
    )
