use Rattle.std.proofs.Common.{rules}
use mathlib.Core.Logic.{∥∥₁_map}
use Rattle.console_machine.proofs.side.ConsoleSideMachine.forget.Goals as goal

pub invariant_of-self : goal.invariant_of-self
invariant_of-self c = (
  ∥∥₁_map c.self.invariant.0 (λ p. (p.0, record { at = p.1.at; stamp = p.1.stamp; console = p.1.console })),
  search rules,
  search rules,
)
