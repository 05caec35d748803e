use Rattle.audio_side.proofs.Follows.{follows_then}
use Rattle.audio_side.proofs.instructions.two_cycles.Goals as goal

pub returns : goal.returns
returns c = follows_then c.cycle.ensures c.cycle-2.ensures
