use Rattle.std.proofs.Common.{vec_len, ◌∙◌}
use Rattle.job_player.proofs.Remains.{left_fits, left_is}
use Rattle.job_player.proofs.left.ConsoleStatePlayer.play_state.Goals as goal

pub put_state-requires-clause-room : goal.put_state-requires-clause-room
put_state-requires-clause-room c =
    let m = c.args.machines in
    let h = c.requires.at_start in
    left_fits m.console m.sound m.end (vec_len m.buffer) m.frames m.bytes c.in-Ok.serial c.in-Ok.ensures.ended h.0 h.1

pub returns : goal.returns
returns c =
    let m = c.args.machines in
    left_is m.console m.sound m.end (vec_len m.buffer) m.frames m.bytes c.in-Ok.serial c.in-Ok.ensures.ended
    c.into_bytes.result.items (λ w at. c.into_bytes.ensures ∙ c.put_state.ensures w at)
