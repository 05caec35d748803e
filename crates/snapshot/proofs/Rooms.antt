-- The run of a path, and that of the same path whose script has memory for another number of spans and resets.
use Rattle.std.proofs.Common.{◌≡◌, ℕ, zero, suc, ◌≤◌, Bool, true, false, List, ◌++◌, refl, ap, sym, ◌∙◌, subst, arith, if◌then◌else◌}
use Rattle.snes_defs.specs.declared.cart.Cart.{Cart}
use Rattle.snes_defs.specs.declared.cart.Job.{Job}
use Rattle.snes_defs.specs.declared.region.Region.{Region}
use Rattle.snes_defs.specs.declared.profile.Profile.TheVariants.{First}
use Rattle.snes_defs.specs.Script.{frames_of}
use Rattle.side_law.specs.Serial.{SerialState, serial_of, is_console_first, console_step, sound_step, turn, console_emits, sound_emits}
use Rattle.side_law.specs.SerialRun.{after_turns, console_output, sound_output, IsPast, IsOutput}
use Rattle.plan_drive.specs.Paths.{Path, path_script}
use Rattle.console_bus.specs.BusState.{board_of}
use Rattle.console_steps.specs.ConsoleState.{ConsoleState, console_moves}
use Rattle.audio_side.specs.HardwareState.{table_of}
use Rattle.audio_side.specs.Sound.{SoundState, sound_act, processor_after, hardware_before_end, sound_start, sound_moves}
use Rattle.audio_side.specs.Playing.{sound_with_room}
use Rattle.snapshot.specs.Path.{PathEmits, start_of, end_of_path, console_of_path}
use Rattle.snapshot.proofs.Clocks.{Agree, Alike, nothing_harmless}
use Rattle.snapshot.proofs.Runs.{SameRun, same_runs, alike_stamp, starts_own}

rooms_agree : (region : Region) (n m : ℕ) (path : Path) → Agree (frames_of path.spans) (path_script region n path) (path_script region m path)
rooms_agree region n m path = record {
  profile = refl;
  pads = λ k lt. refl;
  change = λ io. io;
  harmless = nothing_harmless;
  words = λ io. refl;
  resets = λ k lt. refl;
  extra = false;
  there = refl;
  sound = λ k lt. refl;
}

starts_roomy : (region : Region) (cart : Cart) (n m : ℕ) (path : Path) → Alike (frames_of path.spans) (path_script region n path) (path_script region m path) (rooms_agree region n m path) (console_of_path region cart n path) (console_of_path region cart m path)
unfolding rooms_agree
starts_roomy region cart n m path = record { before = λ lt. refl; begun = λ is. refl; within = omega arith }

pub room_unseen : (job : Job) (n m : ℕ) (path : Path) (video audio : List ℕ) → frames_of path.spans ≤ 36000 → PathEmits job n path video audio → PathEmits job m path video audio
room_unseen job n m path video audio few h =
    let region = job.region in
    let f = frames_of path.spans in
    let s = path_script region n path in
    let t = path_script region m path in
    let agree = rooms_agree region n m path in
    let a = start_of job n path in
    let b = start_of job m path in
    let start : SameRun region f few s t agree a b = record { console = starts_roomy region job.cart n m path; else_same = refl } in
    let same = λ (k : ℕ) (le : k ≤ h.turns).
    same_runs region f few s t agree (board_of job.cart) job.cart.rom job.boot (table_of job.table) a b k (starts_own job n path) start (λ j lt. h.runs.first j (omega (arith, lt, le))) in
    let runs = same h.turns (omega arith) in
    let stamp = alike_stamp region f few s t agree (after_turns console_moves sound_moves a h.turns).console (after_turns console_moves sound_moves b h.turns).console runs.now.console in
    let sound = ap (λ (x : SerialState ConsoleState SoundState). sound_moves.stamp x.sound) runs.now.else_same in
    let console_past = h.runs.past.console in
    let sound_past = h.runs.past.sound in
    record {
      turns = h.turns;
      runs = record {
        past = record { console = omega (arith, console_past, stamp); sound = omega (arith, sound_past, sound) };
        first = λ k lt later.
            let r = same k (omega (arith, lt)) in
            let stood = alike_stamp region f few s t agree (after_turns console_moves sound_moves a k).console (after_turns console_moves sound_moves b k).console r.now.console in
            let heard = ap (λ (x : SerialState ConsoleState SoundState). sound_moves.stamp x.sound) r.now.else_same in
            h.runs.first k lt (record { console = omega (arith, later.console, stood); sound = omega (arith, later.sound, heard) });
      };
      video_is = runs.video ∙ h.video_is;
      audio_is = runs.audio ∙ h.audio_is;
    }

-- ---- the sound side's room alone

module _ (k : ℕ) where
  abbrev pub roomy : SerialState ConsoleState SoundState → SerialState ConsoleState SoundState
  roomy w = record w { sound = sound_with_room w.sound k }

  sound_roomy : (w : SerialState ConsoleState SoundState) → sound_step console_moves sound_moves (roomy w) ≡ roomy (sound_step console_moves sound_moves w)
  unfolding sound_act processor_after hardware_before_end
  sound_roomy w = refl

  emits_roomy : (w : SerialState ConsoleState SoundState) → sound_emits console_moves sound_moves (roomy w) ≡ sound_emits console_moves sound_moves w
  unfolding hardware_before_end
  emits_roomy w = refl

  turn_roomy : (w : SerialState ConsoleState SoundState) → turn console_moves sound_moves (roomy w) ≡ roomy (turn console_moves sound_moves w)
  turn_roomy w = go (is_console_first console_moves sound_moves w)
    where
      go : (b : Bool) → (if b then console_step console_moves sound_moves (roomy w) else sound_step console_moves sound_moves (roomy w))
          ≡ roomy (if b then console_step console_moves sound_moves w else sound_step console_moves sound_moves w)
      go true = refl
      go false = sound_roomy w

  turns_roomy : (w : SerialState ConsoleState SoundState) (n : ℕ) → after_turns console_moves sound_moves (roomy w) n ≡ roomy (after_turns console_moves sound_moves w n)
  turns_roomy w zero = refl
  turns_roomy w (suc n) = ap (turn console_moves sound_moves) (turns_roomy w n) ∙ turn_roomy (after_turns console_moves sound_moves w n)

  video_roomy : (w : SerialState ConsoleState SoundState) (n : ℕ) → console_output console_moves sound_moves (roomy w) n ≡ console_output console_moves sound_moves w n
  video_roomy w zero = refl
  video_roomy w (suc n) =
      ap (λ x. console_output console_moves sound_moves (roomy w) n ++ console_emits console_moves sound_moves x) (turns_roomy w n)
      ∙ ap (λ v. v ++ console_emits console_moves sound_moves (after_turns console_moves sound_moves w n)) (video_roomy w n)

  audio_roomy : (w : SerialState ConsoleState SoundState) (n : ℕ) → sound_output console_moves sound_moves (roomy w) n ≡ sound_output console_moves sound_moves w n
  audio_roomy w zero = refl
  audio_roomy w (suc n) =
      ap (λ x. sound_output console_moves sound_moves (roomy w) n ++ sound_emits console_moves sound_moves x) (turns_roomy w n)
      ∙ ap (λ v. v ++ sound_emits console_moves sound_moves (roomy (after_turns console_moves sound_moves w n))) (audio_roomy w n)
      ∙ ap (λ v. sound_output console_moves sound_moves w n ++ v) (emits_roomy (after_turns console_moves sound_moves w n))

  pub output_roomy : (w : SerialState ConsoleState SoundState) (end : ℕ) (video audio : List ℕ) → IsOutput console_moves sound_moves (roomy w) end video audio → IsOutput console_moves sound_moves w end video audio
  output_roomy w end video audio h =
      let past = subst (IsPast console_moves sound_moves end) (turns_roomy w h.turns) h.runs.past in
      record {
        turns = h.turns;
        runs = record {
          past = record { console = past.console; sound = past.sound };
          first = λ j lt later. h.runs.first j lt (subst (IsPast console_moves sound_moves end) (sym (turns_roomy w j)) (record { console = later.console; sound = later.sound }));
        };
        video_is = sym (video_roomy w h.turns) ∙ h.video_is;
        audio_is = sym (audio_roomy w h.turns) ∙ h.audio_is;
      }

-- WHAT A PATH EMITS is the output of its job, whose sound side has no room for more resets than it has
pub path_is_output : (job : Job) (n : ℕ) (path : Path) (video audio : List ℕ) → PathEmits job n path video audio
    → IsOutput console_moves sound_moves (serial_of (console_of_path job.region job.cart n path) (sound_start job.region First path.resets job.boot job.table)) (end_of_path job.region path) video audio
path_is_output job n path video audio h =
    output_roomy n (serial_of (console_of_path job.region job.cart n path) (sound_start job.region First path.resets job.boot job.table)) (end_of_path job.region path) video audio h
