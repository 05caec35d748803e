use Rattle.std.proofs.Common.{subst}
use Rattle.plan_laws.proofs.Reading.{HoldsAll, file_reads}
use Rattle.plan_laws.proofs.resets.every_reset_is_a_press.Goals as goal

pub returns : goal.returns
returns c = λ file plan is. subst HoldsAll is (file_reads file)
