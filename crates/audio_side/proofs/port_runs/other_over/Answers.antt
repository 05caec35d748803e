use mathlib.Core.Logic.{∥∥₁_map}
use Rattle.audio_side.proofs.port_runs.other_over.Goals as goal

pub returns-in-Some-clause-runs : goal.returns-in-Some-clause-runs
returns-in-Some-clause-runs g c = λ runs. ∥∥₁_map runs (λ p. (_, c.took.ensures p.0 p.1))

pub returns-in-Made-clause-runs : goal.returns-in-Made-clause-runs
returns-in-Made-clause-runs g c = λ runs. ∥∥₁_map runs (λ p. (_, c.wrote.ensures p.0 p.1))

pub returns-in-Inner-clause-runs : goal.returns-in-Inner-clause-runs
returns-in-Inner-clause-runs g c = λ runs. ∥∥₁_map runs (λ p. (_, c.idle.ensures p.0 p.1))
