use Rattle.frame_player.specs.Told.{back_to}
use Rattle.frame_rows.proofs.Either.{either}
use Rattle.frame_rows.proofs.played.Played.back.Goals as goal

pub returns : goal.returns
returns c =
    let (told, h) = c.requires in
    either c.back.result (λ yes. (back_to told c.args.slot, (c.back.ensures.back told h yes).1)) (λ no. (told, (c.back.ensures.none told h no).1))
