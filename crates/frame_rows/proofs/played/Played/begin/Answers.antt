use Rattle.frame_rows.proofs.played.Played.begin.Goals as goal

pub returns-in-Ok : goal.returns-in-Ok
returns-in-Ok c = (_, c.in-Ok.ensures.begun)
