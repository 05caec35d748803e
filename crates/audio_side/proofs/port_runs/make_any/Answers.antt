use mathlib.Core.Logic.{∥∥₁_map}
use Rattle.spc700.proofs.Moves.{Stands-moved_on}
use Rattle.audio_side.proofs.port_runs.make_any.Goals as goal

pub returns-in-Some-clause-runs : goal.returns-in-Some-clause-runs
returns-in-Some-clause-runs g c = λ runs. ∥∥₁_map runs (λ p. (_, Stands-moved_on c.args.spc.now c.took_data.new.self p.0 c.in-Some.byte p.1 c.took_data.ensures))

pub returns-in-Made-clause-runs : goal.returns-in-Made-clause-runs
returns-in-Made-clause-runs g c = λ runs. ∥∥₁_map runs (λ p. (_, Stands-moved_on c.args.spc.now c.wrote_last.new.self p.0 0 p.1 c.wrote_last.ensures))
