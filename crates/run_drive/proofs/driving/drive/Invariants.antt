use Rattle.std.proofs.Common.{◌+◌, ◌*◌, ◌-◌, ◌<◌, ◌≤◌, ℕ, List, length, min}
use Rattle.snes_defs.specs.declared.ports.Side.{Side}
use Rattle.snes_defs.specs.declared.ports.Side.TheVariants.{Console, Sound}
use Rattle.side_law.specs.Serial.{serial_of}
use Rattle.serial_console.specs.Serial.{console_of, sound_of}
use Rattle.serial_console.specs.Lead.{IsLed}
use Rattle.run_drive.proofs.Running.{IsRunning}
use Rattle.run_drive.specs.Driven.{Since}
use Rattle.run_drive.proofs.driving.drive.Given as goal

abbrev pub invariant-loop-serial : goal.invariant-loop-serial
invariant-loop-serial g l =
    let C = g.C.Machine in
    let S = g.S.Machine in
    record {
      running : (c : C.State) (s : S.State) (base first : Side → List ℕ) → IsLed C.moves S.moves C.stands S.stands l.end (serial_of c s) l.initial.serial (first Console) (first Sound)
          → g.K.Sink.holds l.initial.sink Console (base Console) → g.K.Sink.holds l.initial.sink Sound (base Sound)
          → IsRunning C.moves S.moves C.stands S.stands C.waiting S.waiting l.end c s l.serial (Since (g.K.Sink.holds l.sink) base first);
      few_video : length (C.waiting (console_of l.serial)) ≤ C.MOST;
      few_audio : length (S.waiting (sound_of l.serial)) ≤ S.MOST;
      video_held : 0 < length (C.waiting (console_of l.serial)) → (l.video_at < C.stamp_of (console_of l.serial)) × (l.video_at < l.end);
      audio_held : 0 < length (S.waiting (sound_of l.serial)) → (l.audio_at < S.stamp_of (sound_of l.serial)) × (l.audio_at < l.end);
      only : g.K.Sink.only_takes l.initial.sink l.sink;
    }

-- the stamps that are left to the end, each twice, so that a step that emits leaves less than it adds, and the
-- sides whose bytes wait
abbrev pub decreases-loop-serial : goal.decreases-loop-serial
decreases-loop-serial g l =
    2 * ((l.end - g.C.Machine.stamp_of (console_of l.serial)) + (l.end - g.S.Machine.stamp_of (sound_of l.serial)))
    + (min 1 (length (g.C.Machine.waiting (console_of l.serial))) + min 1 (length (g.S.Machine.waiting (sound_of l.serial))))
