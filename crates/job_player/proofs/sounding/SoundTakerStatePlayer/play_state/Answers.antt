use Rattle.std.proofs.Common.{vec_len, subst, sym}
use Rattle.job_player.specs.Sounded.{IsTakenFrom}
use Rattle.job_player.proofs.SoundLemmas.{sounds_is}
use Rattle.job_player.proofs.sounding.SoundTakerStatePlayer.play_state.Goals as goal

pub returns : goal.returns
returns c =
    let m = c.args.machines in
    sounds_is m.console m.sound m.end (vec_len m.buffer) m.bytes c.in-Ok.serial c.in-Ok.ensures.ended
    c.into_bytes.result.items (λ w at. subst (IsTakenFrom w) (sym c.into_bytes.ensures) (c.take_sound.ensures w at))
