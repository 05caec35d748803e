use Rattle.audio_side.proofs.Follows.{follows_then}
use Rattle.audio_side.proofs.instructions.change.Goals as goal

pub returns : goal.returns
returns c = follows_then c.change_read.ensures c.last_write.ensures
