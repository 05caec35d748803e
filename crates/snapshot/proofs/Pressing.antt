-- The button pressed where a path ends.
use Rattle.std.proofs.Common.{◌≡◌, ℕ, ◌<◌, ◌≤◌, nat_lt, not, ◌&&◌, Bool, true, false, List, [], ◌∷◌, ◌++◌, length, length-append, refl, ap, sym, ◌∙◌, subst, arith, lt-ltb, ltb-true, if◌then◌else◌}
use Rattle.snes_defs.specs.declared.cart.Job.{Job}
use Rattle.snes_defs.specs.Script.{Script, RiseWithin, frames_of, is_reset}
use Rattle.clock_ratio.specs.Stamp.{end_stamp_of}
use Rattle.side_law.specs.SerialRun.{IsUnderway, after_turns}
use Rattle.side_law.proofs.SerialRuns.{run_is_over}
use Rattle.console_steps.specs.ConsoleState.{ConsoleState, console_moves}
use Rattle.console_machine.specs.Side.{ConsoleValue}
use Rattle.console_machine.specs.Side as console_side
use Rattle.console_machine.specs.Playing.{console_pressed}
use Rattle.audio_side.specs.Sound.{AudioValue, SoundState, sound_moves}
use Rattle.audio_side.specs.Sound as sound_side
use Rattle.audio_side.specs.Playing.{sound_pressed}
use Rattle.input_files.specs.declared.plan.PlanStep.TheVariants.{Reset}
use Rattle.plan_drive.specs.Paths.{Path, Paths, MayPress, can_press, pressed, reset_there, after_step}
use Rattle.snapshot.specs.declared.run.Run.{Run}
use Rattle.snapshot.specs.declared.rewind.Rewind.{Rewind}
use Rattle.snapshot.specs.Path.{PathEmits, start_of, end_of_path}
use Rattle.snapshot.specs.Positions.{IsDone, IsRested}
use Rattle.snapshot.proofs.Copying.{done_own, done_script, done_region}
use Rattle.snapshot.proofs.Resets.{frames_pressed, rise_within, rise_snoc, rise_last, rise_below}
use Rattle.snapshot.proofs.Runs.{presses_on}

module _ (job : Job) (n : ℕ) (path : Path) (r : Run) (video audio : List ℕ) (d : IsDone job n path r video audio) where
  -- the sound side has the path's resets, and room for as many as the path
  sound_resets : r.serial.sound.clock.resets ≡ path.resets
  sound_resets = ap (λ c. c.resets) d.stands.sound.clock ∙ (done_own job n path r video audio d).resets_are ∙ d.in_order

  pub sound_fits : length path.resets < n → length r.serial.sound.clock.resets < r.serial.sound.clock.room
  sound_fits short =
      let room : r.serial.sound.clock.room ≡ n = ap (λ c. c.room) d.stands.sound.clock ∙ (done_own job n path r video audio d).room_is in
      subst (λ m. length r.serial.sound.clock.resets < m) (sym room) (subst (λ xs. length xs < n) (sym sound_resets) short)

  -- the number of frames of the path, as the run counts them
  pub frames_are : (count : ℕ) → ((frames : ℕ) → frames ≤ 36000 → r.end ≡ end_stamp_of r.serial.console.region frames → count ≡ frames) → count ≡ frames_of path.spans
  frames_are count counts =
      counts (frames_of path.spans) d.few (d.end_is ∙ ap (λ g. end_stamp_of g (frames_of path.spans)) (sym (done_region job n path r video audio d)))

-- where it may be pressed: after the first frame, and once
pub may_press : (path : Path) → frames_of path.spans ≤ 36000 → RiseWithin 1 (frames_of path.spans) path.resets
    → 0 < frames_of path.spans → is_reset path.resets (frames_of path.spans) ≡ false → MayPress path
may_press path few rise some none = rise_snoc 1 36000 path.resets (frames_of path.spans) rise none (omega (arith, some)) few

pub may_not : (path : Path) → MayPress path → (0 < frames_of path.spans) × (is_reset path.resets (frames_of path.spans) ≡ false)
may_not path may =
    let last = (rise_last 1 36000 path.resets (frames_of path.spans) may).0 in
    (omega (arith, last), rise_below 1 36000 path.resets (frames_of path.spans) (frames_of path.spans) may (omega arith))

-- the test says so
both_true : (a b : Bool) → (a && not b) ≡ true → (a ≡ true) × (b ≡ false)
both_true true true e = cc
both_true true false e = (refl, refl)
both_true false b e = cc

can_so : (path : Path) → MayPress path → can_press path ≡ true
can_so path may =
    let both = may_not path may in
    ap (λ b. nat_lt 0 (frames_of path.spans) && not b) both.1 ∙ ap (λ a. a && true) (lt-ltb 0 (frames_of path.spans) both.0)

may_so : (path : Path) → frames_of path.spans ≤ 36000 → RiseWithin 1 (frames_of path.spans) path.resets → can_press path ≡ true → MayPress path
may_so path few rise can =
    let both = both_true (nat_lt 0 (frames_of path.spans)) (is_reset path.resets (frames_of path.spans)) can in
    may_press path few rise (ltb-true 0 (frames_of path.spans) both.0) both.1

-- a reset line of a plan: with a press, and without one
abbrev with_press : Path → Bool → Path
with_press path b = record { spans = path.spans; resets = if b then path.resets ++ frames_of path.spans ∷ [] else path.resets }

module _ (job : Job) (n : ℕ) (paths : Paths) (r : Rewind) where
  pub after_press : MayPress paths.path → IsRested job n (reset_there paths) r → IsRested job n (after_step paths Reset) r
  after_press may h =
      subst (λ b. IsRested job n (record { path = with_press paths.path b; held = paths.held }) r) (sym (can_so paths.path may)) h

  pub after_none : (MayPress paths.path → ⊥) → IsRested job n paths r → IsRested job n (after_step paths Reset) r
  after_none none h = go (can_press paths.path) refl
    where
      go : (b : Bool) → can_press paths.path ≡ b → IsRested job n (after_step paths Reset) r
      go true can = let (video, audio, d) = h.now in absurd (none (may_so paths.path d.few d.rise can))
      go false can = subst (λ b. IsRested job n (record { path = with_press paths.path b; held = paths.held }) r) (sym can) h

-- a rewinder whose machines have the reset
pub pressed_rested : (job : Job) (n : ℕ) (paths : Paths) (r : Rewind) (frame : ℕ) (x : ConsoleValue) (y : AudioValue)
    → ((frames : ℕ) → frames ≤ 36000 → r.run.end ≡ end_stamp_of r.run.serial.console.region frames → frame ≡ frames)
    → length r.run.serial.console.rest.script.resets < r.run.serial.console.rest.script.room → RiseWithin 1 36000 (r.run.serial.console.rest.script.resets ++ frame ∷ [])
    → ((w : ConsoleState) → console_side.StandsAt r.run.serial.console w → console_side.StandsAt x (console_pressed w frame)) → x.waiting ≡ r.run.serial.console.waiting
    → ((m : SoundState) → sound_side.StandsAt r.run.serial.sound m → sound_side.StandsAt y (sound_pressed m frame)) → y.waiting ≡ r.run.serial.sound.waiting
    → IsRested job n paths r
    → IsRested job n (reset_there paths)
    (record { run = record { serial = record { console = x; sound = y; to_sound = r.run.serial.to_sound; to_console = r.run.serial.to_console }; end = r.run.end; stepped = r.run.stepped }; slots = r.slots })
pressed_rested job n paths r frame x y counts room rises stands waits sound_stands sound_waits h =
    let (video, audio, d) = h.now in
    let path = paths.path in
    let script = done_script job n path r.run video audio d in
    let is = frames_are job n path r.run video audio d frame counts in
    let short : length path.resets < n = subst (λ (s : Script). length s.resets < s.room) script room in
    let may : MayPress path = subst (λ f. RiseWithin 1 36000 (path.resets ++ f ∷ [])) is (subst (λ (s : Script). RiseWithin 1 36000 (s.resets ++ frame ∷ [])) script rises) in
    let size = length-append path.resets (frames_of path.spans ∷ []) in
    record {
      now = (
        video,
        audio,
        record {
          at = record d.at { console = console_pressed d.at.console (frames_of path.spans); sound = sound_pressed d.at.sound (frames_of path.spans) };
          stands = record {
            console = subst (λ f. console_side.StandsAt x (console_pressed d.at.console f)) is (stands d.at.console d.stands.console);
            sound = subst (λ f. sound_side.StandsAt y (sound_pressed d.at.sound f)) is (sound_stands d.at.sound d.stands.sound);
            to_sound = d.stands.to_sound;
            to_console = d.stands.to_console;
          };
          underway = presses_on job n path d.at video audio d.few may d.underway d.past;
          past = record { console = d.past.console; sound = d.past.sound };
          no_video = waits ∙ d.no_video;
          no_audio = sound_waits ∙ d.no_audio;
          end_is = d.end_is;
          few = d.few;
          room = d.room;
          reset_room = omega (arith, size, short);
          rise = rise_within 1 36000 path.resets (frames_of path.spans) may;
          in_order = frames_pressed path.resets (frames_of path.spans) may ∙ ap (λ v. v ++ frames_of path.spans ∷ []) d.in_order;
        },
      );
      slots = h.slots;
    }

-- THE BUTTON EMITS NOTHING: what the run of the path with the press emits up to there is what the run of the path emits
pub pressed_emits : (job : Job) (n : ℕ) (path : Path) (video audio : List ℕ) → MayPress path → PathEmits job n path video audio → PathEmits job n (pressed path) video audio
pressed_emits job n path video audio may h =
    let few = (rise_last 1 36000 path.resets (frames_of path.spans) may).1 in
    let now = after_turns console_moves sound_moves (start_of job n path) h.turns in
    let underway : IsUnderway console_moves sound_moves (start_of job n path) (end_of_path job.region path) now video audio =
    record { turns = h.turns; now_is = refl; not_past = h.runs.first; video_is = h.video_is; audio_is = h.audio_is } in
    let past = h.runs.past in
    run_is_over console_moves sound_moves (start_of job n (pressed path)) (end_of_path job.region (pressed path))
    (record now { console = console_pressed now.console (frames_of path.spans); sound = sound_pressed now.sound (frames_of path.spans) }) video audio
    (presses_on job n path now video audio few may underway past) (record { console = past.console; sound = past.sound })
