use Rattle.frame_player.specs.Told.{kept_in}
use Rattle.frame_rows.proofs.Either.{either}
use Rattle.frame_rows.proofs.played.Played.keep.Goals as goal

pub returns : goal.returns
returns c =
    let (told, h) = c.requires in
    either c.keep.result (λ yes. (kept_in told c.args.slot, (c.keep.ensures.kept told h yes).1)) (λ no. (told, (c.keep.ensures.none told h no).1))
