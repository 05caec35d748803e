use Rattle.commute_laws.proofs.laws.heard_runs_go_on.Goals as goal
use Rattle.commute_laws.proofs.HeardRuns.{heard_run_at_once, heard_run_on, heard_run_longer}

pub returns-clause-begins : goal.returns-clause-begins
returns-clause-begins g c = λ side. heard_run_at_once side g.M.Machine.moves

pub returns-clause-steps : goal.returns-clause-steps
returns-clause-steps g c = λ side. heard_run_on side g.M.Machine.moves

pub returns-clause-longer : goal.returns-clause-longer
returns-clause-longer g c = λ side. heard_run_longer side g.M.Machine.moves
