use Rattle.commute_laws.proofs.Legs.{leg_at_once, leg_on, leg_longer}
use Rattle.commute_laws.proofs.laws.legs_go_on.Goals as goal

pub returns-clause-begins : goal.returns-clause-begins
returns-clause-begins g c = λ side. leg_at_once side g.M.Machine.moves

pub returns-clause-steps : goal.returns-clause-steps
returns-clause-steps g c = λ side. leg_on side g.M.Machine.moves

pub returns-clause-longer : goal.returns-clause-longer
returns-clause-longer g c = λ side. leg_longer side g.M.Machine.moves
