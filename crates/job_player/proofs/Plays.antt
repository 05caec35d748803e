-- What a loop took of the run of both sides is what was taken of the job.
use Rattle.std.proofs.Common.{ℕ, List, Result, Ok, Err, OnOk, subst}
use Rattle.snes_defs.specs.declared.cart.Job.{Job}
use Rattle.snes_defs.specs.declared.ports.Side.{Side}
use Rattle.console_steps.specs.ConsoleState.{ConsoleState, console_moves}
use Rattle.console_machine.specs.Side.{ConsoleValue}
use Rattle.console_machine.specs.Side as console_side
use Rattle.audio_side.specs.Sound.{AudioValue, SoundState, sound_moves}
use Rattle.audio_side.specs.Sound as sound_side
use Rattle.run_drive.specs.Run.{TookRun, TookFirst}
use Rattle.run_drive.specs.Played.{PlayedWhole, PlayedFirst}
use Rattle.job_player.specs.Start.{console_of, sound_of, Emits, IsAtStart}

-- a fact that an Ok stands for gives another
pub on_ok : {A E P Q : Type 0} (r : Result A E) → OnOk r P → (P → Q) → OnOk r Q
on_ok (Ok a) h f = f h
on_ok (Err e) h f = tt

module _ (holds : Side → List ℕ → Type 0) (c : ConsoleValue) (s : AudioValue) (end size : ℕ) where
  pub played_whole : ((m : ConsoleState) (n : SoundState) → console_side.StandsAt c m → sound_side.StandsAt s n → TookRun console_moves sound_moves m n end holds)
      → (job : Job) → IsAtStart c s end size job → PlayedWhole (Emits job) holds
  played_whole took job h =
      let t = subst (λ e. TookRun console_moves sound_moves (console_of job) (sound_of job) e holds) h.end_is (took (console_of job) (sound_of job) h.console h.sound) in
      record { video = t.video; audio = t.audio; emitted = t.output; video_taken = t.video_taken; audio_taken = t.audio_taken }

  pub played_first : ((m : ConsoleState) (n : SoundState) → console_side.StandsAt c m → sound_side.StandsAt s n → TookFirst console_moves sound_moves m n end holds)
      → (job : Job) → IsAtStart c s end size job → PlayedFirst (Emits job) holds
  played_first took job h =
      let t = subst (λ e. TookFirst console_moves sound_moves (console_of job) (sound_of job) e holds) h.end_is (took (console_of job) (sound_of job) h.console h.sound) in
      record {
        video = t.video;
        audio = t.audio;
        emitted = t.output;
        video_count = t.video_count;
        video_taken = t.video_taken;
        audio_count = t.audio_count;
        audio_taken = t.audio_taken;
      }
