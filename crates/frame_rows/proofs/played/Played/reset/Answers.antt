use Rattle.frame_player.specs.Told.{pressed_in}
use Rattle.frame_rows.proofs.Either.{either}
use Rattle.frame_rows.proofs.played.Played.reset.Goals as goal

pub returns : goal.returns
returns c =
    let (told, h) = c.requires in
    either c.reset.result
    (λ yes. (pressed_in told, (c.reset.ensures.pressed told h yes).1))
    (λ no. (told, (c.reset.ensures.none told h no).1))
