use Rattle.job_player.proofs.SoundLemmas.{job_sounds}
use Rattle.job_player.proofs.sounding.SoundTakerStatePlayer.ready_state.Goals as goal

pub returns-clause-ends : goal.returns-clause-ends
returns-clause-ends c = job_sounds c.args.job.now
