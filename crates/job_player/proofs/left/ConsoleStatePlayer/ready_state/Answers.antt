use Rattle.job_player.proofs.Leaving.{job_leaves}
use Rattle.job_player.proofs.left.ConsoleStatePlayer.ready_state.Goals as goal

pub returns-clause-ends : goal.returns-clause-ends
returns-clause-ends c = job_leaves c.args.job.now
