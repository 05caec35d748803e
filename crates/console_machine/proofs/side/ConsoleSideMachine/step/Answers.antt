use Rattle.std.proofs.Common.{rules, ◌∙◌}
use mathlib.Core.Logic.{∥∥₁_map}
use Rattle.console_machine.proofs.side.ConsoleSideMachine.step.Goals as goal

pub invariant_of-self : goal.invariant_of-self
invariant_of-self c = (
  ∥∥₁_map c.self.invariant.0 (λ p. (_, c.step.ensures.next p.0 p.1)),
  c.step.ensures.capacity ∙ c.self.invariant.1,
  search rules,
)
