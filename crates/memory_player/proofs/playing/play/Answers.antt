use Rattle.memory_player.proofs.Fronts.{played_into, played_short}
use Rattle.memory_player.proofs.playing.play.Goals as goal

pub returns-clause-whole : goal.returns-clause-whole
returns-clause-whole g c = played_into g.P.Player.emits _ _ _ _ _ _ _ c.in_ok-job.ensures.shows _ (c.fill_from.ensures.whole _ c.in-Ok.ensures.starts)

pub returns-clause-ends : goal.returns-clause-ends
returns-clause-ends g c = played_short g.P.Player.emits _ _ _ _ _ _ _ c.in_ok-job.ensures.shows _ (c.fill_from.ensures.short _ c.in-Ok.ensures.starts)
