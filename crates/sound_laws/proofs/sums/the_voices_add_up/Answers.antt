use Rattle.sound_laws.proofs.Alone.{left_adds, right_adds}
use Rattle.sound_laws.proofs.sums.the_voices_add_up.Goals as goal

pub returns-clause-left : goal.returns-clause-left
returns-clause-left c = left_adds

pub returns-clause-right : goal.returns-clause-right
returns-clause-right c = right_adds
