use Rattle.std.proofs.Common.{◌<◌, [], ◌∷◌, ◌++◌, refl, ap, sym, subst, length}
use Rattle.snes_defs.specs.Script.{Script, RiseWithin}
use Rattle.console_steps.specs.ConsoleState.{ConsoleState}
use Rattle.console_machine.specs.Side as console_side
use Rattle.console_machine.specs.Playing.{console_pressed, value_pressed}
use Rattle.audio_side.specs.Sound.{SoundState}
use Rattle.audio_side.specs.Sound as sound_side
use Rattle.audio_side.specs.Playing.{audio_pressed, sound_pressed}
use Rattle.snapshot.specs.declared.run.Run.{Run}
use Rattle.snapshot.specs.Positions.{IsRested}
use Rattle.plan_drive.specs.Paths.{reset_there}
use Rattle.snapshot.proofs.Copying.{done_script}
use Rattle.snapshot.proofs.Pressing.{sound_fits, frames_are, pressed_rested}
use Rattle.snapshot.proofs.rewind.Rewind.reset.Goals as goal

pub press-requires : goal.press-requires
press-requires c =
    let r = c.args.self.now in
    let (job, n, paths, rested, short, may) = c.requires.rested in
    let (video, audio, d) = rested.now in
    let script = done_script job n paths.path r.run video audio d in
    let frame = frames_are job n paths.path r.run video audio d c.frames-frame.result c.frames-frame.ensures in
    record {
      room = subst (λ (s : Script). length s.resets < s.room) (sym script) short;
      rises = subst (λ (s : Script). RiseWithin 1 36000 (s.resets ++ c.frames-frame.result ∷ [])) (sym script) (subst (λ f. RiseWithin 1 36000 (paths.path.resets ++ f ∷ [])) (sym frame) may);
      sound_room = sound_fits job n paths.path r.run video audio d short;
    }

pub returns-clause-reset : goal.returns-clause-reset
returns-clause-reset c = λ job n paths rested.
    let r = c.args.self.now in
    let frame = c.frames-frame.result in
    let pressed = c.press.ensures.pressed in
    let (first_job, first_n, first_paths, first, short, may) = c.requires.rested in
    let (video, audio, d) = first.now in
    let script = done_script first_job first_n first_paths.path r.run video audio d in
    let is = frames_are first_job first_n first_paths.path r.run video audio d frame c.frames-frame.ensures in
    subst (λ (v : Run). IsRested job n (reset_there paths) (record { run = v; slots = r.slots })) (sym pressed)
    (pressed_rested job n paths r frame (value_pressed r.run.serial.console frame) (audio_pressed r.run.serial.sound frame) c.frames-frame.ensures
    (subst (λ (s : Script). length s.resets < s.room) (sym script) short)
    (subst (λ (s : Script). RiseWithin 1 36000 (s.resets ++ frame ∷ [])) (sym script) (subst (λ f. RiseWithin 1 36000 (first_paths.path.resets ++ f ∷ [])) (sym is) may))
    (subst (λ (v : Run). (w : ConsoleState) → console_side.StandsAt r.run.serial.console w → console_side.StandsAt v.serial.console (console_pressed w frame)) pressed c.press.ensures.stands) refl
    (subst (λ (v : Run). (m : SoundState) → sound_side.StandsAt r.run.serial.sound m → sound_side.StandsAt v.serial.sound (sound_pressed m frame)) pressed c.press.ensures.sound_stands) refl
    rested)

pub returns-clause-waits : goal.returns-clause-waits
returns-clause-waits c = record { run = ap (λ (v : Run). v.stepped) c.press.ensures.pressed; slots = λ k other. refl }
