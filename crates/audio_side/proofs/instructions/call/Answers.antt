use Rattle.audio_side.proofs.Follows.{follows_then}
use Rattle.audio_side.proofs.instructions.call.Goals as goal

pub returns-in_err-push_high : goal.returns-in_err-push_high
returns-in_err-push_high c = follows_then c.call_cycle.ensures c.push_high.ensures

pub returns-in_err-push_low : goal.returns-in_err-push_low
returns-in_err-push_low c = follows_then (follows_then c.call_cycle.ensures c.push_high.ensures) c.push_low.ensures

pub returns : goal.returns
returns c = follows_then (follows_then (follows_then c.call_cycle.ensures c.push_high.ensures) c.push_low.ensures) c.two_cycles.ensures
