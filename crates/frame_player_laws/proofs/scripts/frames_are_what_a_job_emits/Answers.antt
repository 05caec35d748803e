use Rattle.frame_player_laws.proofs.Played.{any_job}
use Rattle.frame_player_laws.proofs.scripts.frames_are_what_a_job_emits.Goals as goal

pub returns : goal.returns
returns c = any_job
