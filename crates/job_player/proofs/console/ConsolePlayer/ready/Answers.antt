use Rattle.job_player.proofs.Ends.{job_is_playable}
use Rattle.job_player.proofs.console.ConsolePlayer.ready.Goals as goal

pub returns-clause-ends : goal.returns-clause-ends
returns-clause-ends c = job_is_playable c.args.job.now
