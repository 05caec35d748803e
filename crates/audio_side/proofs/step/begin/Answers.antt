use mathlib.Core.Logic.{∥∥₁_map}
use Rattle.audio_side.proofs.step.begin.Goals as goal

pub returns-then-is_due-clause-runs : goal.returns-then-is_due-clause-runs
returns-then-is_due-clause-runs c = λ runs. ∥∥₁_map runs (λ p. (_, c.restart.ensures.processor))

pub returns-else-is_due-clause-runs : goal.returns-else-is_due-clause-runs
returns-else-is_due-clause-runs c = λ runs. ∥∥₁_map runs (λ p. (_, c.access.ensures.processor p.0 p.1))
