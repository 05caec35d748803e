use Rattle.audio_side.proofs.Follows.{follows_then}
use Rattle.audio_side.proofs.instructions.pull.Goals as goal

pub returns-in_err-pull_cycle : goal.returns-in_err-pull_cycle
returns-in_err-pull_cycle c = follows_then c.pull_first_cycle.ensures c.pull_cycle.ensures

pub returns-in_err-return_low : goal.returns-in_err-return_low
returns-in_err-return_low c = follows_then (follows_then c.pull_first_cycle.ensures c.pull_cycle.ensures) c.return_low.ensures

pub returns : goal.returns
returns c = follows_then (follows_then (follows_then c.pull_first_cycle.ensures c.pull_cycle.ensures) c.return_low.ensures) c.return_high.ensures
