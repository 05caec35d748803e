use Rattle.snes_library.proofs.Telling.{never_done}
use Rattle.snes_library.proofs.snes_play.Goals as goal

pub returns-in-Err-clause-whole : goal.returns-in-Err-clause-whole
returns-in-Err-clause-whole c = λ e. absurd (never_done _ _ _ c.told.ensures e)

pub returns-in-Err-clause-done : goal.returns-in-Err-clause-done
returns-in-Err-clause-done c = λ e. absurd (never_done _ _ _ c.told.ensures e)

pub returns-in-Err-clause-ends : goal.returns-in-Err-clause-ends
returns-in-Err-clause-ends c = λ differ. (_, c.told.ensures, c.in-Err.ensures.ends)
