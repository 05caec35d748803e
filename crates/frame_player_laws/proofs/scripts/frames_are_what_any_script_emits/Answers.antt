use Rattle.frame_player_laws.proofs.Played.{any_script}
use Rattle.frame_player_laws.proofs.scripts.frames_are_what_any_script_emits.Goals as goal

pub returns : goal.returns
returns c = λ told frames job n path none no_resets is played few. any_script told frames job none no_resets is played few n path
