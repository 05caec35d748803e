-- THE COMMAND `rewind`: a cartridge, a boot ROM and a table make a console, and a plan of kept moments is played on it.
use Rattle.std.specs.Prelude.{◌≡◌, ℕ, false, List, [], ◌∷◌, Option, None, IfSome}
use Rattle.snes_defs.specs.declared.cart.Job.{Job}
use Rattle.shelf.specs.declared.shelves.Input.{Input}
use Rattle.shelf.specs.declared.shelves.Input.TheVariants.{Cart, Boot, Table, Plan}
use Rattle.shelf.specs.declared.shelves.Out.{Out}
use Rattle.shelf.specs.declared.shelves.Out.TheVariants.{Video, Sound}
use Rattle.input_files.specs.Table.{IsTableFile}
use Rattle.input_files.specs.Plan.{PlanValue, frames_in}
use Rattle.plan_drive.specs.Paths.{no_paths}
use Rattle.plan_drive.specs.Joins.{PlanEmits}
use Rattle.plan_drive.specs.Samples.{samples_in}
use Rattle.run_io.specs.Form.{FormValue, Order}
use Rattle.run_io.specs.Line.{line_of, frames_text}
use Rattle.snes_commands.specs.Kinds.{IsCartIn, IsPlanIn}
use Rattle.snes_commands.specs.Command.{Command, never}

-- the words: inputs and outputs
abbrev pub rewind_form : FormValue
rewind_form = record {
  numbered = false;
  inputs = Cart ∷ (Boot ∷ (Table ∷ (Plan ∷ [])));
  optional = [];
  count = None;
  settings = [];
  outputs = Video ∷ (Sound ∷ []);
}

-- the machines of the job are those that the inputs make, in the region of the plan, and the plan is that of its file, as
-- far as they are told: each was read so
pub record ShowsPlan (told : Input → Option (List ℕ)) (job : Job) (value : PlanValue) : Type 0 where
  pub cart : IfSome (told Cart) (λ bytes. IsCartIn bytes job.cart)
  pub boot : IfSome (told Boot) (λ bytes. job.boot ≡ bytes)
  pub table : IfSome (told Table) (λ bytes. IsTableFile bytes job.table)
  pub plan : IfSome (told Plan) (λ bytes. IsPlanIn bytes value)
  pub region : job.region ≡ value.region

-- the line of a plan that was played: the frames and the samples of its goes
abbrev pub plan_line : PlanValue → List ℕ
plan_line plan = line_of (frames_text (frames_in plan.steps) (samples_in plan.region plan.steps no_paths))

-- video and sound are what the plan emits, played on these machines, and the line is the plan's
pub record MakesRewind (emits : Job → List ℕ → List ℕ → Type 0) (order : Order) (told : Input → Option (List ℕ)) (contents : Out → List ℕ) (line : List ℕ) : Type 0 where
  pub job : Job
  pub plan : PlanValue
  pub shows : ShowsPlan told job plan
  pub emitted : PlanEmits emits job plan.steps (contents Video) (contents Sound)
  pub says : line ≡ plan_line plan

abbrev pub rewind : (Job → List ℕ → List ℕ → Type 0) → Command
rewind emits = record { form = rewind_form; Makes = MakesRewind emits; differs = never }
