use mathlib.Core.Logic.{∥∥₁_map}
use Rattle.console_machine.proofs.parts.Parts.step_over.Goals as goal

pub returns-clause-keeps : goal.returns-clause-keeps
returns-clause-keeps g c = (λ some. ∥∥₁_map some (λ p. (_, c.step.ensures.next p.0 p.1)), c.step.ensures.region, c.step.ensures.capacity)
