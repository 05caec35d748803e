-- The run of a path, and that of a script with the same pads in each frame of the path: up to the end of the path they
-- are one run.
use Rattle.std.proofs.Common.{◌≡◌, ℕ, ◌<◌, ◌≤◌, false, List, refl, ap, sym, subst, ◌∙◌, arith}
use Rattle.snes_defs.specs.declared.cart.Job.{Job}
use Rattle.snes_defs.specs.declared.profile.Profile.TheVariants.{First}
use Rattle.plan_drive.specs.Paths.{Path, path_script}
use Rattle.snes_defs.specs.Script.{Script, frames_of, is_reset, pads_at}
use Rattle.clock_ratio.specs.Stamp.{end_stamp_of}
use Rattle.side_law.specs.Serial.{SerialState, serial_of}
use Rattle.side_law.specs.SerialRun.{IsOutput, after_turns}
use Rattle.io_math.specs.Registers.{framed, registers_start}
use Rattle.console_bus.specs.BusState.{board_of}
use Rattle.console_steps.specs.ConsoleState.{ConsoleState, console_moves, console_start}
use Rattle.audio_side.specs.HardwareState.{table_of}
use Rattle.audio_side.specs.Clock.{reset_frames}
use Rattle.audio_side.specs.Sound.{SoundState, sound_start, sound_moves}
use Rattle.snapshot.specs.Path.{PathEmits, start_of, end_of_path, console_of_path, sound_of_path}
use Rattle.snapshot.proofs.Clocks.{Agree, Alike, words_harmless, words_of}
use Rattle.snapshot.proofs.Runs.{SameRun, same_runs, alike_stamp, starts_own, words_twice}
use Rattle.snapshot.proofs.Rooms.{output_roomy}
use Rattle.frame_player_laws.specs.Scripts.{HaveSamePads}

module _ (job : Job) (n : ℕ) (path : Path) (other : Script) (resets : other.resets ≡ path.resets)
    (pads : (k : ℕ) → k < frames_of path.spans → pads_at other.spans k ≡ pads_at path.spans k) where
  -- the other script by the first profile, which is that of paths
  abbrev t : Script
  t = record other { profile = First }

  abbrev agree : Agree (frames_of path.spans) (path_script job.region n path) t
  agree =
      let f = frames_of path.spans in
      record {
        profile = refl;
        pads = pads;
        change = words_of t f;
        harmless = words_harmless (pads_at t.spans f).0 (pads_at t.spans f).1;
        words = λ io. sym (words_twice io (pads_at path.spans f).0 (pads_at path.spans f).1
            (pads_at t.spans f).0 (pads_at t.spans f).1);
        resets = λ k lt. ap (λ xs. is_reset xs k) resets;
        extra = false;
        there = ap (λ xs. is_reset xs f) resets;
        sound = λ k lt. ap (λ xs. is_reset (reset_frames xs 36001) k) resets;
      }

  -- the serial console that plays the other script, and both consoles at their starts
  abbrev pub other_start : SerialState ConsoleState SoundState
  other_start =
      serial_of (console_start job.cart t job.region) (sound_of_path job.region t.room t.resets job.boot job.table)

  starts_alike : Alike (frames_of path.spans) (path_script job.region n path) t agree (console_of_path job.region job.cart n path)
      (console_start job.cart t job.region)
  starts_alike =
      let f = frames_of path.spans in
      let w = console_of_path job.region job.cart n path in
      record {
        before = λ lt.
            ap (λ p. record w { rest = record w.rest { script = t; io = framed registers_start p.0 p.1 } }) (pads 0 lt);
        begun = λ is.
            ap (λ k. record w {
              rest = record w.rest {
                script = t;
                io = framed registers_start (pads_at t.spans k).0 (pads_at t.spans k).1;
              };
            }) is
            ∙ ap (λ io. record w { rest = record w.rest { script = t; io = io } })
            (sym (words_twice registers_start (pads_at path.spans 0).0 (pads_at path.spans 0).1
            (pads_at t.spans f).0 (pads_at t.spans f).1));
        within = omega arith;
      }

  pub same_output : (video audio : List ℕ) → frames_of path.spans ≤ 36000 → PathEmits job n path video audio
      → IsOutput console_moves sound_moves other_start (end_of_path job.region path) video audio
  same_output video audio few h =
      let region = job.region in
      let f = frames_of path.spans in
      let s = path_script region n path in
      let a = start_of job n path in
      let start : SameRun region f few s t agree a other_start = record { console = starts_alike; else_same = refl } in
      let same = λ (k : ℕ) (le : k ≤ h.turns).
      same_runs region f few s t agree (board_of job.cart) job.cart.rom job.boot (table_of job.table) a other_start k
      (starts_own job n path) start (λ j lt. h.runs.first j (omega (arith, lt, le))) in
      let console_at = λ (k : ℕ) (le : k ≤ h.turns).
      alike_stamp region f few s t agree (after_turns console_moves sound_moves a k).console
      (after_turns console_moves sound_moves other_start k).console (same k le).now.console in
      let sound_at = λ (k : ℕ) (le : k ≤ h.turns).
      ap (λ (x : SerialState ConsoleState SoundState). sound_moves.stamp x.sound) (same k le).now.else_same in
      let console_last = console_at h.turns (omega arith) in
      let sound_last = sound_at h.turns (omega arith) in
      let console_past = h.runs.past.console in
      let sound_past = h.runs.past.sound in
      record {
        turns = h.turns;
        runs = record {
          past = record {
            console = omega (arith, console_past, console_last);
            sound = omega (arith, sound_past, sound_last);
          };
          first = λ k lt later.
              let console_then = console_at k (omega (arith, lt)) in
              let sound_then = sound_at k (omega (arith, lt)) in
              h.runs.first k lt (record {
                console = omega (arith, later.console, console_then);
                sound = omega (arith, later.sound, sound_then);
              });
        };
        video_is = (same h.turns (omega arith)).video ∙ h.video_is;
        audio_is = (same h.turns (omega arith)).audio ∙ h.audio_is;
      }

  -- and without room for more resets on the sound side
  pub same_job : (video audio : List ℕ) → frames_of path.spans ≤ 36000 → PathEmits job n path video audio
      → IsOutput console_moves sound_moves
      (serial_of (console_start job.cart t job.region) (sound_start job.region First t.resets job.boot job.table))
      (end_of_path job.region path) video audio
  same_job video audio few h =
      output_roomy t.room
      (serial_of (console_start job.cart t job.region) (sound_start job.region First t.resets job.boot job.table))
      (end_of_path job.region path) video audio (same_output video audio few h)

pub same_pads : (job : Job) (n m : ℕ) (path other : Path) (video audio : List ℕ)
    → HaveSamePads path.spans other.spans → other.resets ≡ path.resets → frames_of path.spans ≤ 36000
    → PathEmits job n path video audio → PathEmits job m other video audio
same_pads job n m path other video audio h resets few emits =
    let region = job.region in
    let t = path_script region m other in
    let Emitted : ℕ → Type 0
    = λ frames. IsOutput console_moves sound_moves (start_of job m other) (end_stamp_of region frames) video audio in
    subst Emitted h.lasts (same_output job n path t resets (λ k lt. sym (h.pads k lt)) video audio few emits)
