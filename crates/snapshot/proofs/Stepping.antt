-- How far the machines were stepped, on the way through a plan.
use Rattle.std.proofs.Common.{◌≡◌, ℕ, zero, suc, ◌+◌, ◌<◌, ◌≤◌, List, [], ◌∷◌, slice_set, slice_index_or, length, refl, ap, sym, ◌∙◌, subst, ⊎_elim, arith}
use Rattle.std.proofs.lemmas.List.{get_or-set_same, get_or-set_other}
use Rattle.std.proofs.lemmas.Bool.{cases_eq}
use Rattle.snes_defs.specs.declared.cart.Job.{Job}
use Rattle.snes_defs.specs.declared.script.Span.{Span}
use Rattle.side_law.specs.Serial.{SerialState}
use Rattle.side_law.specs.SerialRun.{IsPast}
use Rattle.serial_console.specs.Serial.{IsAt}
use Rattle.console_steps.specs.ConsoleState.{ConsoleState, console_moves}
use Rattle.console_machine.specs.Side as console_side
use Rattle.console_machine.specs.AfterStep.{stamp_stands as console_stamp}
use Rattle.console_machine.specs.Playing.{console_played}
use Rattle.audio_side.specs.Sound.{SoundState, sound_moves}
use Rattle.audio_side.specs.Sound as sound_side
use Rattle.audio_side.specs.SoundLaws.{stamp_stands as sound_stamp}
use Rattle.input_files.specs.declared.plan.PlanStep.{PlanStep}
use Rattle.input_files.specs.declared.plan.PlanStep.TheVariants.{Go}
use Rattle.plan_drive.specs.Paths.{Path, Paths, no_paths, after_step}
use Rattle.snapshot.specs.declared.run.Run.{Run}
use Rattle.snapshot.specs.declared.rewind.Rewind.{Rewind}
use Rattle.snapshot.specs.Path.{end_of_path}
use Rattle.snapshot.specs.Positions.{IsDone, HoldsPath, StandsIn}
use Rattle.snapshot.specs.Stepped.{counted, rise_of, stepped_of, SlotsWait, StepsNone, StepsOn, StepsByGoes, EndsAt, GoLasts, GoesLast}

-- a run whose console alone has become another one, which stands for what the old one stood for
pub console_stands : (f : ConsoleState → ConsoleState) (old new : Run) → ((w : ConsoleState) → console_side.StandsAt old.serial.console w → console_side.StandsAt new.serial.console (f w))
    → new.serial ≡ record old.serial { console = new.serial.console }
    → (w : SerialState ConsoleState SoundState) → IsAt console_side.StandsAt sound_side.StandsAt old.serial w → IsAt console_side.StandsAt sound_side.StandsAt new.serial (record w { console = f w.console })
console_stands f old new stands is w h =
    subst (λ s. IsAt console_side.StandsAt sound_side.StandsAt s (record w { console = f w.console })) (sym is)
    (record { console = stands w.console h.console; sound = h.sound; to_sound = h.to_sound; to_console = h.to_console })

pub sound_stands : (old new : Run) → ((m : SoundState) → sound_side.StandsAt old.serial.sound m → sound_side.StandsAt new.serial.sound m)
    → new.serial ≡ record old.serial { sound = new.serial.sound }
    → (w : SerialState ConsoleState SoundState) → IsAt console_side.StandsAt sound_side.StandsAt old.serial w → IsAt console_side.StandsAt sound_side.StandsAt new.serial w
sound_stands old new stands is w h =
    subst (λ s. IsAt console_side.StandsAt sound_side.StandsAt s w) (sym is)
    (record { console = h.console; sound = stands w.sound h.sound; to_sound = h.to_sound; to_console = h.to_console })

-- a place within a list has an entry, whatever is named for the places beyond
alike : (xs : List Run) (j : ℕ) (a b : Run) → j < length xs → slice_index_or xs j a ≡ slice_index_or xs j b
alike [] j a b lt = absurd (omega (arith, lt))
alike (x ∷ xs) zero a b lt = refl
alike (x ∷ xs) (suc j) a b lt = alike xs j a b (omega (arith, lt))

-- one slot that holds another run with the same count
pub slot_waits : (slots : List Run) (slot : ℕ) (old new : Run) → slot < length slots → old ≡ slice_index_or slots slot old → new.stepped ≡ old.stepped
    → (k : ℕ) (other : Run) → (slice_index_or (slice_set slots slot new) k other).stepped ≡ (slice_index_or slots k other).stepped
slot_waits slots slot old new within is same k other = ⊎_elim here there (cases_eq k slot)
  where
    here : k ≡ slot → (slice_index_or (slice_set slots slot new) k other).stepped ≡ (slice_index_or slots k other).stepped
    here e =
        subst (λ j. (slice_index_or (slice_set slots slot new) j other).stepped ≡ (slice_index_or slots j other).stepped) (sym e)
        (ap (λ (r : Run). r.stepped) (get_or-set_same slots slot new other within) ∙ same ∙ ap (λ (r : Run). r.stepped) (is ∙ alike slots slot old other within))

    there : (k ≡ slot → ⊥) → (slice_index_or (slice_set slots slot new) k other).stepped ≡ (slice_index_or slots k other).stepped
    there ne = ap (λ (r : Run). r.stepped) (get_or-set_other slots slot k new other ne)

module _ (job : Job) (n : ℕ) where
  -- the run of a path that has come to its end ends at the stamps of the two machines
  ends_at : (path : Path) (r : Run) (video audio : List ℕ) (d : IsDone job n path r video audio) → EndsAt job n path (console_moves.stamp d.at.console) (sound_moves.stamp d.at.sound)
  ends_at path r video audio d = record {
    turns = d.underway.turns;
    runs = record { past = subst (IsPast console_moves sound_moves (end_of_path job.region path)) (sym d.underway.now_is) d.past; first = d.underway.not_past };
    console_is = ap (λ (w : SerialState ConsoleState SoundState). console_moves.stamp w.console) d.underway.now_is;
    sound_is = ap (λ (w : SerialState ConsoleState SoundState). sound_moves.stamp w.sound) d.underway.now_is;
  }

  -- a go, from where a path ends to where the path after it ends
  pub go_lasts : (before path : Path) (span : Span) (r mid after : Rewind) → HoldsPath job n before r.run
      → ((w : SerialState ConsoleState SoundState) → StandsIn r w → StandsIn mid (record w { console = console_played w.console span }))
      → HoldsPath job n path after.run → GoLasts job n before path (rise_of mid.run after.run)
  go_lasts before path span r mid after was begins is =
      let (video, audio, d) = was in
      let (later_video, later_audio, e) = is in
      let set_out = begins d.at d.stands in
      let console = console_stamp mid.run.serial.console (console_played d.at.console span) set_out.console in
      let sound = sound_stamp mid.run.serial.sound d.at.sound set_out.sound in
      let later_console = console_stamp after.run.serial.console e.at.console e.stands.console in
      let later_sound = sound_stamp after.run.serial.sound e.at.sound e.stands.sound in
      record {
        console = console_moves.stamp d.at.console;
        sound = sound_moves.stamp d.at.sound;
        from = ends_at before r.run video audio d;
        later_console = console_moves.stamp e.at.console;
        later_sound = sound_moves.stamp e.at.sound;
        to = ends_at path after.run later_video later_audio e;
        rise_is = omega (arith, console, sound, later_console, later_sound);
      }

  -- the steps of a plan that are made came on by so much
  pub record HasStepped (steps rest : List PlanStep) (paths : Paths) (start r : Rewind) : Type 0 where
    pub sum : ℕ
    pub so_far : (more : ℕ) → GoesLast job n rest paths more → GoesLast job n steps no_paths (sum + more)
    pub run : stepped_of r ≡ counted (stepped_of start) sum
    pub slots : SlotsWait start r

  pub stepped_first : (steps : List PlanStep) (r : Rewind) → stepped_of r ≤ 18446744073709551615 → HasStepped steps steps no_paths r r
  stepped_first steps r few = record {
    sum = 0;
    so_far = λ more goes. subst (GoesLast job n steps no_paths) (omega arith) goes;
    run = omega (arith, few);
    slots = λ k other. refl;
  }

  pub stepped_go : (steps rest : List PlanStep) (count pad1 pad2 : ℕ) (paths : Paths) (start r mid after : Rewind)
      → HasStepped steps (Go count pad1 pad2 ∷ rest) paths start r
      → StepsNone r mid → StepsOn mid after
      → GoLasts job n paths.path (after_step paths (Go count pad1 pad2)).path (rise_of mid.run after.run)
      → HasStepped steps rest (after_step paths (Go count pad1 pad2)) start after
  stepped_go steps rest count pad1 pad2 paths start r mid after h none on lasts =
      let rise = rise_of mid.run after.run in
      let was = h.run in
      let set_out = none.run in
      let came = on.run in
      record {
        sum = h.sum + rise;
        so_far = λ more goes. subst (GoesLast job n steps no_paths) (omega arith) (h.so_far (rise + more) (rise, more, lasts, goes, refl));
        run = came ∙ ap (λ c. counted c rise) (set_out ∙ was) ∙ adds (stepped_of start) h.sum rise;
        slots = λ k other. on.slots k other ∙ none.slots k other ∙ h.slots k other;
      }
    where
      adds : (c a b : ℕ) → counted (counted c a) b ≡ counted c (a + b)
      adds c a b = omega arith

  -- a keep or a return
  pub stepped_none : (steps rest : List PlanStep) (step : PlanStep) (paths : Paths) (start r after : Rewind)
      → ((more : ℕ) → GoesLast job n rest (after_step paths step) more → GoesLast job n (step ∷ rest) paths more)
      → HasStepped steps (step ∷ rest) paths start r → StepsNone r after → HasStepped steps rest (after_step paths step) start after
  stepped_none steps rest step paths start r after same h none = record {
    sum = h.sum;
    so_far = λ more goes. h.so_far more (same more goes);
    run = none.run ∙ h.run;
    slots = λ k other. none.slots k other ∙ h.slots k other;
  }

  pub stepped_whole : (steps : List PlanStep) (paths : Paths) (start r : Rewind) → HasStepped steps [] paths start r → StepsByGoes job n steps start r
  stepped_whole steps paths start r h = record {
    sum = h.sum;
    goes = subst (GoesLast job n steps no_paths) (omega arith) (h.so_far 0 refl);
    run = h.run;
    slots = h.slots;
  }
