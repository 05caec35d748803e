use Rattle.std.proofs.Common.{subst}
use Rattle.audio_side.specs.Sound.{AudioValue, IsRunning}
use Rattle.audio_side.proofs.side.AudioSide.running.Goals as goal

pub returns : goal.returns
returns c = subst (λ (v : AudioValue). IsRunning v.processor) c.self.view_is c.self.invariant.0
