use Rattle.std.proofs.Common.{sym, subst}
use Rattle.side_law.specs.Serial.{serial_of}
use Rattle.side_law.proofs.SerialKeeps.{serving_at_first}
use Rattle.side_law.proofs.SerialRuns.{run_ends}
use Rattle.run_drive.proofs.Drives.{no_bytes, led_starts, took_whole, took_first}
use Rattle.run_drive.proofs.Ending.{run_has_ended}
use Rattle.run_drive.proofs.Running.{whole_is_first}
use Rattle.run_drive.proofs.serial_run.run_to_end.Goals as goal

pub returns-in-Ok-clause-whole : goal.returns-in-Ok-clause-whole
returns-in-Ok-clause-whole g c = λ m n console sound.
    let C = g.C.Machine in
    let S = g.S.Machine in
    let of_console = g.met.C.Machine g.world.𝓛 g.world.𝓜 g.world.𝓡 ((λ s x. x), (λ x. x), (λ x. x), λ x. x) in
    let of_sound = g.met.S.Machine g.world.𝓛 g.world.𝓜 g.world.𝓡 ((λ s x. x), (λ x. x), (λ x. x), λ x. x) in
    let led = led_starts C.moves S.moves C.stands S.stands c.args.end m n _ (c.new-serial.ensures.starts m n console sound) in
    took_whole C.moves S.moves C.stands S.stands c.args.end m n C.stamp_of S.stamp_of of_console.stands_stamp of_sound.stands_stamp _ (g.K.Sink.holds c.drive.new.sink)
    (c.in-Ok.ensures.whole m n no_bytes no_bytes led c.requires.no_video c.requires.no_sound) c.in-Ok.ensures.console_past c.in-Ok.ensures.sound_past

pub returns-in-Ok-clause-first : goal.returns-in-Ok-clause-first
returns-in-Ok-clause-first g c = λ m n console sound.
    let C = g.C.Machine in
    let S = g.S.Machine in
    let of_console = g.met.C.Machine g.world.𝓛 g.world.𝓜 g.world.𝓡 ((λ s x. x), (λ x. x), (λ x. x), λ x. x) in
    let of_sound = g.met.S.Machine g.world.𝓛 g.world.𝓜 g.world.𝓡 ((λ s x. x), (λ x. x), (λ x. x), λ x. x) in
    let led = led_starts C.moves S.moves C.stands S.stands c.args.end m n _ (c.new-serial.ensures.starts m n console sound) in
    whole_is_first C.moves S.moves C.stands S.stands c.args.end m n _
    (took_whole C.moves S.moves C.stands S.stands c.args.end m n C.stamp_of S.stamp_of of_console.stands_stamp of_sound.stands_stamp _ (g.K.Sink.holds c.drive.new.sink)
    (c.in-Ok.ensures.whole m n no_bytes no_bytes led c.requires.no_video c.requires.no_sound) c.in-Ok.ensures.console_past c.in-Ok.ensures.sound_past)

pub returns-in-Ok-clause-ended : goal.returns-in-Ok-clause-ended
returns-in-Ok-clause-ended g c = λ m n console sound.
    let C = g.C.Machine in
    let S = g.S.Machine in
    let of_console = g.met.C.Machine g.world.𝓛 g.world.𝓜 g.world.𝓡 ((λ s x. x), (λ x. x), (λ x. x), λ x. x) in
    let of_sound = g.met.S.Machine g.world.𝓛 g.world.𝓜 g.world.𝓡 ((λ s x. x), (λ x. x), (λ x. x), λ x. x) in
    let led = led_starts C.moves S.moves C.stands S.stands c.args.end m n _ (c.new-serial.ensures.starts m n console sound) in
    let took = c.in-Ok.ensures.whole m n no_bytes no_bytes led c.requires.no_video c.requires.no_sound in
    run_has_ended C.moves S.moves C.stands S.stands c.args.end m n C.stamp_of S.stamp_of of_console.stands_stamp of_sound.stands_stamp _ _ _ took.led
    c.in-Ok.ensures.console_past c.in-Ok.ensures.sound_past

pub returns-in-Err-clause-first : goal.returns-in-Err-clause-first
returns-in-Err-clause-first g c = λ m n console sound.
    let C = g.C.Machine in
    let S = g.S.Machine in
    let of_console = g.met.C.Machine g.world.𝓛 g.world.𝓜 g.world.𝓡 ((λ s x. x), (λ x. x), (λ x. x), λ x. x) in
    let of_sound = g.met.S.Machine g.world.𝓛 g.world.𝓜 g.world.𝓡 ((λ s x. x), (λ x. x), (λ x. x), λ x. x) in
    let region = C.region_of c.args.console in
    let output = run_ends region (C.valid region) (S.valid region) C.MOST S.MOST C.moves S.moves (of_console.lawful region) (of_sound.lawful region) (serial_of m n) c.args.end
    (serving_at_first (C.valid region) (S.valid region) m n (of_console.stands_valid c.args.console m console)
    (subst (λ r. S.valid r n) (sym c.requires.region) (of_sound.stands_valid c.args.sound n sound))) in
    let led = led_starts C.moves S.moves C.stands S.stands c.args.end m n _ (c.new-serial.ensures.starts m n console sound) in
    took_first C.moves S.moves C.stands S.stands c.args.end m n (g.K.Sink.holds c.drive.new.sink)
    (c.in-Err.ensures.part m n no_bytes no_bytes led c.requires.no_video c.requires.no_sound output)
