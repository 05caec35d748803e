use Rattle.std.proofs.Common.{rules, arith}
use Rattle.std.proofs.lemmas.Grind.{common_steps}
use Rattle.snes_defs.specs.declared.ports.Side.TheVariants.{Console, Sound}
use Rattle.side_law.specs.Serial.{serial_of}
use Rattle.run_drive.proofs.Running.{run_leads, console_taken, console_failed, sound_taken, sound_failed}
use Rattle.run_drive.specs.Driven.{Since}
use Rattle.run_drive.proofs.Drives.{since_adds, since_some, since_other, drive_starts, drive_is_whole}
use Rattle.run_drive.proofs.driving.drive.Goals as goal

pub loop-serial-init : goal.loop-serial-init
loop-serial-init g c = record {
  running = λ m n base first led video audio.
      let C = g.C.Machine in
      let S = g.S.Machine in
      drive_starts C.moves S.moves C.stands S.stands C.waiting S.waiting c.args.end m n c.args.serial.now (g.K.Sink.holds c.args.sink.now) base first led c.requires.console_empty c.requires.sound_empty video audio;
  few_video = search rules;
  few_audio = search rules;
  video_held = search rules;
  audio_held = search rules;
  only = search rules;
}

pub loop-serial-preserved-in-Ok-1 : goal.loop-serial-preserved-in-Ok-1
loop-serial-preserved-in-Ok-1 g c = record {
  running = λ m n base first led video audio.
      let C = g.C.Machine in
      let S = g.S.Machine in
      let now = g.K.Sink.holds c.loop-serial.sink in
      let later = g.K.Sink.holds c.pour.new.sink in
      let ahead = run_leads C.moves S.moves C.stands S.stands C.waiting S.waiting c.args.end m n _ _ _ _ (c.loop-serial.invariant.running m n base first led video audio)
      (c.console_leads-row_at.ensures.led (serial_of m n))
      (c.sound_leads-audio_at.ensures.led (serial_of m n)) c.sound_leads-audio_at.ensures.console_stays in
      console_taken C.moves S.moves C.stands S.stands C.waiting S.waiting c.args.end m n _ _ (Since later base first) ahead
      c.console.result.now c.pour.new.machine c.console.ensures.value c.pour.ensures.state c.pour.ensures.empty
      (since_other now later base first Sound (λ had. c.pour.ensures.other Sound had (λ e. cc))) (since_adds now later base first Console _ c.in-Ok.ensures.whole);
  few_video = grind (arith, common_steps);
  few_audio = grind (arith, common_steps);
  video_held = grind (arith, common_steps);
  audio_held = search rules;
  only = g.met.K.Sink.takes_more _ _ _ c.loop-serial.invariant.only c.pour.ensures.only;
}

pub loop-serial-preserved : goal.loop-serial-preserved
loop-serial-preserved g c = record {
  running = λ m n base first led video audio.
      let C = g.C.Machine in
      let S = g.S.Machine in
      let now = g.K.Sink.holds c.loop-serial.sink in
      let later = g.K.Sink.holds c.pour-else-video_at-audio_at.new.sink in
      let ahead = run_leads C.moves S.moves C.stands S.stands C.waiting S.waiting c.args.end m n _ _ _ _ (c.loop-serial.invariant.running m n base first led video audio)
      (c.console_leads-row_at.ensures.led (serial_of m n))
      (c.sound_leads-audio_at.ensures.led (serial_of m n)) c.sound_leads-audio_at.ensures.console_stays in
      sound_taken C.moves S.moves C.stands S.stands C.waiting S.waiting c.args.end m n _ _ (Since later base first) ahead
      c.sound.result.now c.pour-else-video_at-audio_at.new.machine c.sound.ensures.value c.pour-else-video_at-audio_at.ensures.state c.pour-else-video_at-audio_at.ensures.empty
      (since_other now later base first Console (λ had. c.pour-else-video_at-audio_at.ensures.other Console had (λ e. cc))) (since_adds now later base first Sound _ c.in-Ok-pour.ensures.whole);
  few_video = grind (arith, common_steps);
  few_audio = grind (arith, common_steps);
  video_held = search rules;
  audio_held = grind (arith, common_steps);
  only = g.met.K.Sink.takes_more _ _ _ c.loop-serial.invariant.only c.pour-else-video_at-audio_at.ensures.only;
}

pub returns-in_default-clause-part : goal.returns-in_default-clause-part
returns-in_default-clause-part g c = λ m n base first led video audio output.
    let C = g.C.Machine in
    let S = g.S.Machine in
    let now = g.K.Sink.holds c.loop-serial.sink in
    let later = g.K.Sink.holds c.pour.new.sink in
    let ahead = run_leads C.moves S.moves C.stands S.stands C.waiting S.waiting c.args.end m n _ _ _ _ (c.loop-serial.invariant.running m n base first led video audio)
    (c.console_leads-row_at.ensures.led (serial_of m n))
    (c.sound_leads-audio_at.ensures.led (serial_of m n)) c.sound_leads-audio_at.ensures.console_stays in
    console_failed C.moves S.moves C.stands S.stands C.waiting S.waiting c.args.end m n _ _ (Since later base first) ahead
    c.console.result.now c.console.ensures.value (since_other now later base first Sound (λ had. c.pour.ensures.other Sound had (λ e. cc))) (since_some now later base first Console _ c.in_default.ensures.some) output

pub returns-in_default-pour-clause-part : goal.returns-in_default-pour-clause-part
returns-in_default-pour-clause-part g c = λ m n base first led video audio output.
    let C = g.C.Machine in
    let S = g.S.Machine in
    let now = g.K.Sink.holds c.loop-serial.sink in
    let later = g.K.Sink.holds c.pour-else-video_at-audio_at.new.sink in
    let ahead = run_leads C.moves S.moves C.stands S.stands C.waiting S.waiting c.args.end m n _ _ _ _ (c.loop-serial.invariant.running m n base first led video audio)
    (c.console_leads-row_at.ensures.led (serial_of m n))
    (c.sound_leads-audio_at.ensures.led (serial_of m n)) c.sound_leads-audio_at.ensures.console_stays in
    sound_failed C.moves S.moves C.stands S.stands C.waiting S.waiting c.args.end m n _ _ (Since later base first) ahead
    c.sound.result.now c.sound.ensures.value (since_other now later base first Console (λ had. c.pour-else-video_at-audio_at.ensures.other Console had (λ e. cc))) (since_some now later base first Sound _ c.in_default-pour.ensures.some) output

pub returns-clause-whole : goal.returns-clause-whole
returns-clause-whole g c = λ m n base first led video audio.
    let C = g.C.Machine in
    let S = g.S.Machine in
    drive_is_whole C.moves S.moves C.stands S.stands C.waiting S.waiting c.args.end m n C.stamp_of S.stamp_of _ _ (c.loop-serial.invariant.running m n base first led video audio) (search rules)
