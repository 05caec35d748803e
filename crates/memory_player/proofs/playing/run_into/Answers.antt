use Rattle.std.proofs.Common.{refl}
use Rattle.memory_player.proofs.Fronts.{counts_whole, counts_short, first_short}
use Rattle.memory_player.proofs.playing.run_into.Goals as goal

pub returns-in-Ok-clause-whole : goal.returns-in-Ok-clause-whole
returns-in-Ok-clause-whole g c = λ job plays.
    counts_whole c.play_serial.ensures.only c.requires.no_video c.requires.no_sound refl refl (g.P.Player.emits job) c.counts.result (c.in-Ok.ensures.whole job plays)
    c.counts.ensures.video c.counts.ensures.sound c.counts.ensures.video_fits c.counts.ensures.sound_fits

pub returns-in-Ok-clause-short : goal.returns-in-Ok-clause-short
returns-in-Ok-clause-short g c = λ job plays.
    counts_short c.play_serial.ensures.only c.requires.no_video c.requires.no_sound refl refl (g.P.Player.emits job) c.counts.result (c.in-Ok.ensures.whole job plays)
    c.counts.ensures.short

pub returns-in-Err-clause-short : goal.returns-in-Err-clause-short
returns-in-Err-clause-short g c = λ job plays.
    first_short c.play_serial.ensures.only c.requires.no_video c.requires.no_sound refl refl (g.P.Player.emits job) c.in-Err.side (c.play_serial.ensures.first job plays)
    c.in-Err.ensures.failed
