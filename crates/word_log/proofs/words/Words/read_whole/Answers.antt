use Rattle.std.proofs.Common.{[], refl}
use Rattle.snes_defs.specs.declared.ports.Side.TheVariants.{Console, Sound}
use Rattle.word_log.proofs.Wholing.{both-hear, reads-whole}
use Rattle.word_log.proofs.words.Words.read_whole.Goals as goal

pub returns-in-Console-clause-answer : goal.returns-in-Console-clause-answer
returns-in-Console-clause-answer c =
    let v = c.whole.inside.seat in
    rw (c.in-Console.is, ← c.whole.view_is)
    (reads-whole Console c.args.at v.table_id v.me.0 c.read_both.new.seat.me.0 c.whole.inside.console_counts c.whole.inside.sound_counts [] _
    c.read_both.ensures.meets c.args.port c.read_both.result refl c.read_both.ensures.answer)

pub returns-in-Console-clause-hears : goal.returns-in-Console-clause-hears
returns-in-Console-clause-hears c =
    let v = c.whole.inside.seat in
    rw (← c.whole.view_is)
    (both-hear Console v.table_id v.me.0 c.read_both.new.seat.me.0 c.whole.inside.console_counts c.whole.inside.sound_counts _ _ v.me.0.region c.whole.inside.console
    c.read_both.ensures.meets c.whole.invariant.console_ready)

pub returns-in-Sound-clause-answer : goal.returns-in-Sound-clause-answer
returns-in-Sound-clause-answer c =
    let v = c.whole.inside.seat in
    rw (c.in-Sound.is, ← c.whole.view_is)
    (reads-whole Sound c.args.at v.table_id v.me.0 c.read_both-in-Sound.new.seat.me.0 c.whole.inside.console_counts c.whole.inside.sound_counts [] _
    c.read_both-in-Sound.ensures.meets c.args.port c.read_both-in-Sound.result refl c.read_both-in-Sound.ensures.answer)

pub returns-in-Sound-clause-hears : goal.returns-in-Sound-clause-hears
returns-in-Sound-clause-hears c =
    let v = c.whole.inside.seat in
    rw (← c.whole.view_is)
    (both-hear Sound v.table_id v.me.0 c.read_both-in-Sound.new.seat.me.0 c.whole.inside.console_counts c.whole.inside.sound_counts _ _ v.me.0.region c.whole.inside.sound
    c.read_both-in-Sound.ensures.meets c.whole.invariant.sound_ready)
