-- How far the machines of a rewinder were stepped, in stamps. Every step raises the stamp of its machine, by the least
-- of its region or more, so a count that stays means that no step was made.
use Rattle.std.specs.Prelude.{◌≡◌, ℕ, ◌+◌, ◌-◌, min, List, [], ◌∷◌, slice_index_or}
use Rattle.snes_defs.specs.declared.cart.Job.{Job}
use Rattle.side_law.specs.SerialRun.{RunsFor, after_turns}
use Rattle.console_steps.specs.ConsoleState.{console_moves}
use Rattle.audio_side.specs.Sound.{sound_moves}
use Rattle.audio_side.specs.Clock.{stamp_now}
use Rattle.input_files.specs.declared.plan.PlanStep.{PlanStep}
use Rattle.input_files.specs.declared.plan.PlanStep.TheVariants.{Go, Keep, Back, Reset}
use Rattle.plan_drive.specs.Paths.{Path, Paths, no_paths, after_step}
use Rattle.snapshot.specs.declared.run.Run.{Run}
use Rattle.snapshot.specs.declared.rewind.Rewind.{Rewind}
use Rattle.snapshot.specs.Path.{start_of, end_of_path}

-- a count that goes on by so many stamps, and stops at its highest number
abbrev pub counted : ℕ → ℕ → ℕ
counted count rise = min 18446744073709551615 (count + rise)

-- by how many stamps two sides came on, from the stamps that they had
abbrev pub rise_from : (console sound later_console later_sound : ℕ) → ℕ
rise_from console sound later_console later_sound = (later_console - console) + (later_sound - sound)

-- by how many stamps the two machines of a run came on
abbrev pub rise_of : Run → Run → ℕ
rise_of before after =
    rise_from before.serial.console.stamp (stamp_now before.serial.sound.clock) after.serial.console.stamp (stamp_now after.serial.sound.clock)

-- how far the machines of a rewinder were stepped since it was made
abbrev pub stepped_of : Rewind → ℕ
stepped_of r = r.run.stepped

-- THE SLOTS WERE NOT STEPPED
abbrev pub SlotsWait : (before after : Rewind) → Type 0
SlotsWait before after = (k : ℕ) (other : Run) → (slice_index_or after.slots.items k other).stepped ≡ (slice_index_or before.slots.items k other).stepped

-- NO MACHINE WAS STEPPED between the two
pub record StepsNone (before after : Rewind) : Type 0 where
  pub run : stepped_of after ≡ stepped_of before
  pub slots : SlotsWait before after

-- THE MACHINES WERE STEPPED just from where they stood before to where they stand after
pub record StepsOn (before after : Rewind) : Type 0 where
  pub run : stepped_of after ≡ counted (stepped_of before) (rise_of before.run after.run)
  pub slots : SlotsWait before after

module _ (job : Job) (n : ℕ) where
  -- the serial run of a path's job, from its start to its end, leaves both sides at these stamps
  pub record EndsAt (path : Path) (console sound : ℕ) : Type 0 where
    pub turns : ℕ
    pub runs : RunsFor console_moves sound_moves (start_of job n path) (end_of_path job.region path) turns
    pub console_is : console_moves.stamp (after_turns console_moves sound_moves (start_of job n path) turns).console ≡ console
    pub sound_is : sound_moves.stamp (after_turns console_moves sound_moves (start_of job n path) turns).sound ≡ sound

  -- by how many stamps one go comes on: from the end of the path before it to the end of the path after it
  pub record GoLasts (before path : Path) (rise : ℕ) : Type 0 where
    pub console : ℕ
    pub sound : ℕ
    pub from : EndsAt before console sound
    pub later_console : ℕ
    pub later_sound : ℕ
    pub to : EndsAt path later_console later_sound
    pub rise_is : rise_from console sound later_console later_sound ≡ rise

  -- THE SUM of these over the goes of some steps
  abbrev pub GoesLast : List PlanStep → Paths → ℕ → Type 0
  GoesLast [] paths sum = sum ≡ 0
  GoesLast (Go count pad1 pad2 ∷ rest) paths sum =
      (rise : ℕ) × (more : ℕ)
      × GoLasts paths.path (after_step paths (Go count pad1 pad2)).path rise
      × GoesLast rest (after_step paths (Go count pad1 pad2)) more
      × (rise + more ≡ sum)
  GoesLast (Keep slot ∷ rest) paths sum = GoesLast rest (after_step paths (Keep slot)) sum
  GoesLast (Back slot ∷ rest) paths sum = GoesLast rest (after_step paths (Back slot)) sum
  GoesLast (Reset ∷ rest) paths sum = GoesLast rest (after_step paths Reset) sum

  -- THE STEPS OF A PLAN are those of its goes, and no others
  pub record StepsByGoes (steps : List PlanStep) (before after : Rewind) : Type 0 where
    pub sum : ℕ
    pub goes : GoesLast steps no_paths sum
    pub run : stepped_of after ≡ counted (stepped_of before) sum
    pub slots : SlotsWait before after
