-- A path: the spans that a console has played from the start of its job, one after another, and its resets; the job of a
-- path; and the paths of a plan.
use Rattle.std.specs.Prelude.{ℕ, ◌+◌, ◌==◌, nat_lt, not, ◌&&◌, Bool, max, List, [], ◌∷◌, ◌++◌, if◌then◌else◌}
use Rattle.snes_defs.specs.declared.cart.Job.{Job}
use Rattle.snes_defs.specs.declared.region.Region.{Region}
use Rattle.snes_defs.specs.declared.profile.Profile.TheVariants.{First}
use Rattle.snes_defs.specs.declared.script.Span.{Span}
use Rattle.snes_defs.specs.Script.{Script, RiseWithin, frames_of, is_reset}
use Rattle.input_files.specs.declared.plan.PlanStep.{PlanStep}
use Rattle.input_files.specs.declared.plan.PlanStep.TheVariants.{Go, Keep, Back, Reset}

-- A PATH: the spans that a console has played since the start of its job, and the frames with which the button was
-- pressed: each is the end of the path that was gone until then
pub record Path : Type 0 where
  pub spans : List Span
  pub resets : List ℕ

abbrev pub empty_path : Path
empty_path = record { spans = []; resets = [] }

-- a path that goes on by a span
abbrev pub longer : Path → Span → Path
longer path span = record { spans = path.spans ++ span ∷ []; resets = path.resets }

-- a path at whose end the button is pressed
abbrev pub pressed : Path → Path
pressed path = record { spans = path.spans; resets = path.resets ++ frames_of path.spans ∷ [] }

-- it may be pressed there: not before the first frame, nor twice, nor past the last frame that a script may have
abbrev pub MayPress : Path → Type 0
MayPress path = RiseWithin 1 36000 (path.resets ++ frames_of path.spans ∷ [])

-- the same as a test, of a path whose resets rise
abbrev pub can_press : Path → Bool
can_press path = nat_lt 0 (frames_of path.spans) && not (is_reset path.resets (frames_of path.spans))

-- a path after a `reset` of a plan: a press, if it may be. The reader refuses a plan with another one
abbrev pub after_reset : Path → Path
after_reset path = record {
  spans = path.spans;
  resets = if can_press path then path.resets ++ frames_of path.spans ∷ [] else path.resets;
}

-- THE PATHS of a plan on its way: the one that it is on, and the one that each slot holds
pub record Paths : Type 0 where
  pub path : Path
  pub held : ℕ → Path

-- at first all are empty
abbrev pub no_paths : Paths
no_paths = record { path = empty_path; held = λ slot. empty_path }

-- a go appends its span to the path
abbrev pub gone : Paths → Span → Paths
gone p span = record { path = longer p.path span; held = p.held }

-- the button is pressed at the end of the path
abbrev pub reset_there : Paths → Paths
reset_there p = record { path = pressed p.path; held = p.held }

-- a keep stores the path in a slot
abbrev pub kept : Paths → ℕ → Paths
kept p slot = record { path = p.path; held = λ k. if k == slot then p.path else p.held k }

-- a return makes the stored path the path
abbrev pub back : Paths → ℕ → Paths
back p slot = record { path = p.held slot; held = p.held }

-- the paths after a step, and after some steps
abbrev pub after_step : Paths → PlanStep → Paths
after_step p (Go count pad1 pad2) = gone p (record { count = count; pad1 = pad1; pad2 = pad2 })
after_step p (Keep slot) = kept p slot
after_step p (Back slot) = back p slot
after_step p Reset = record { path = after_reset p.path; held = p.held }

abbrev pub after_steps : List PlanStep → Paths → Paths
after_steps [] p = p
after_steps (step ∷ rest) p = after_steps rest (after_step p step)

-- THE JOB of a path: the machines of a job, played in its region and by the first profile with a script of just the path; the
-- run ends with the path. The script has memory for n spans and n resets, at which no machine looks
abbrev pub path_script : Region → ℕ → Path → Script
path_script region n path = record { region = region; profile = First; spans = path.spans; resets = path.resets; room = n }

abbrev pub path_job : Job → ℕ → Path → Job
path_job job n path = record { cart = job.cart; boot = job.boot; table = job.table; script = path_script job.region n path; frames = frames_of path.spans; region = job.region }

-- How much memory a plan needs: room for a span of each go and for each reset, where one number serves both lists; and
-- the slots up to the highest that it names.
abbrev pub room_of : List PlanStep → ℕ
room_of [] = 0
room_of (Go count pad1 pad2 ∷ rest) = room_of rest + 1
room_of (Keep slot ∷ rest) = room_of rest
room_of (Back slot ∷ rest) = room_of rest
room_of (Reset ∷ rest) = room_of rest + 1

-- where n are needed by what went before
abbrev pub slots_from : List PlanStep → ℕ → ℕ
slots_from [] n = n
slots_from (Go count pad1 pad2 ∷ rest) n = slots_from rest n
slots_from (Keep slot ∷ rest) n = slots_from rest (max n (slot + 1))
slots_from (Back slot ∷ rest) n = slots_from rest (max n (slot + 1))
slots_from (Reset ∷ rest) n = slots_from rest n

abbrev pub slots_of : List PlanStep → ℕ
slots_of steps = slots_from steps 0
