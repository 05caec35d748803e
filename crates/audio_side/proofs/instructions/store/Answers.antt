use Rattle.audio_side.proofs.Follows.{follows_then}
use Rattle.audio_side.proofs.instructions.store.Goals as goal

pub returns : goal.returns
returns c = follows_then c.write_cycle.ensures c.last_write.ensures
