use Rattle.std.proofs.Common.{ap}
use mathlib.Core.Logic.{∥∥₁_map}
use Rattle.console_machine.specs.Parts.{value_of}
use Rattle.console_machine.specs.Playing.{console_played}
use Rattle.console_machine.proofs.Copies.{goes_on}
use Rattle.console_machine.proofs.side.ConsoleSide.play.Goals as goal

pub invariant_of-self : goal.invariant_of-self
invariant_of-self c =
    let v = value_of c.self.inside.parts in (
      ∥∥₁_map c.self.invariant.0 (λ p. (console_played p.0 c.args.span, goes_on v (record v { rest = c.play.new.self }) c.args.span p.0 (ap (λ r. record v { rest = r }) c.play.ensures.played) p.1)),
      c.self.invariant.1,
      c.self.invariant.2,
    )
