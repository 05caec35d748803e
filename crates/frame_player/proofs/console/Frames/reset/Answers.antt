use Rattle.frame_player.proofs.console.Frames.reset.Goals as goal

pub returns-clause-pressed : goal.returns-clause-pressed
returns-clause-pressed c = λ told h on.
    let done = c.press.ensures.pressed told h.stands on in
    (done.0, record { stands = done.1; most_is = h.most_is; slots_is = h.slots_is; region_is = h.region_is })

pub returns-clause-none : goal.returns-clause-none
returns-clause-none c = λ told h off.
    let done = c.press.ensures.none told h.stands off in
    (done.0, record { stands = done.1; most_is = h.most_is; slots_is = h.slots_is; region_is = h.region_is })
