use Rattle.frame_player.specs.Told.{gone_on, word_of}
use Rattle.frame_rows.proofs.played.Played.play_into.Goals as goal

pub returns-in-Ok : goal.returns-in-Ok
returns-in-Ok c =
    let (told, h) = c.requires in
    (gone_on told (word_of c.args.pad) (word_of 0), c.in-Ok.ensures.on told h)

pub returns-in-Err : goal.returns-in-Err
returns-in-Err c =
    let (told, h) = c.requires in
    (told, c.in-Err.ensures.stays told h)
