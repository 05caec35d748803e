use Rattle.std.proofs.Common.{subst}
use Rattle.spc_player.specs.Play.{Playing}
use Rattle.spc_player.specs.Player.{IsPlaying}
use Rattle.spc_player.proofs.StemSteps.{last_step_is, last_step_samples}
use Rattle.spc_player.proofs.player.Player.next_stem.Goals as goal

pub returns-clause-next : goal.returns-clause-next
returns-clause-next c = λ w h.
    subst (λ (v : Playing). IsPlaying c.drop_sample.new.self v) (last_step_is w) (c.drop_sample.ensures.same_place _ (c.turn_apart-bytes.ensures.next _ (c.to_last_step.ensures.next w h)))

pub returns-clause-bytes : goal.returns-clause-bytes
returns-clause-bytes c = λ w h. c.turn_apart-bytes.ensures.stem _ (c.to_last_step.ensures.next w h) (last_step_samples w)
