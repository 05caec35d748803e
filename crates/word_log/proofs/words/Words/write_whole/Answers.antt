use Rattle.snes_defs.specs.declared.ports.Side.TheVariants.{Console, Sound}
use Rattle.word_log.proofs.Wholing.{both-hear}
use Rattle.word_log.proofs.words.Words.write_whole.Goals as goal

pub returns-in-Console-clause-hears : goal.returns-in-Console-clause-hears
returns-in-Console-clause-hears c =
    let v = c.whole.inside.seat in
    rw (← c.whole.view_is)
    (both-hear Console v.table_id v.me.0 c.write_both.new.seat.me.0 c.whole.inside.console_counts c.whole.inside.sound_counts _ _ v.me.0.region c.whole.inside.console
    c.write_both.ensures.meets c.whole.invariant.console_ready)

pub returns-in-Sound-clause-hears : goal.returns-in-Sound-clause-hears
returns-in-Sound-clause-hears c =
    let v = c.whole.inside.seat in
    rw (← c.whole.view_is)
    (both-hear Sound v.table_id v.me.0 c.write_both-in-Sound.new.seat.me.0 c.whole.inside.console_counts c.whole.inside.sound_counts _ _ v.me.0.region c.whole.inside.sound
    c.write_both-in-Sound.ensures.meets c.whole.invariant.sound_ready)
