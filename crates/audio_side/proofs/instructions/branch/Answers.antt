use Rattle.audio_side.proofs.Follows.{follows_then}
use Rattle.audio_side.proofs.instructions.branch.Goals as goal

pub returns : goal.returns
returns c = follows_then c.distance.ensures c.two_cycles.ensures
