use Rattle.commute_laws.proofs.ToTheEnd.{of_run}
use Rattle.commute_laws.proofs.laws.history_is_of_the_run.Goals as goal

pub returns : goal.returns
returns g c = of_run g.C.Machine.moves g.S.Machine.moves
