-- THE COMMANDS `run`, `serial` AND `lockless`: four inputs make a job, and its run becomes video and sound.
use Rattle.std.specs.Prelude.{◌≡◌, ℕ, false, List, [], ◌∷◌, Option, Some}
use Rattle.snes_defs.specs.declared.cart.Job.{Job}
use Rattle.shelf.specs.declared.shelves.Input.{Input}
use Rattle.shelf.specs.declared.shelves.Input.TheVariants.{Cart, Boot, Table, Script}
use Rattle.shelf.specs.declared.shelves.Out.{Out}
use Rattle.shelf.specs.declared.shelves.Out.TheVariants.{Video, Sound}
use Rattle.run_io.specs.declared.options.Count.TheVariants.{Frames}
use Rattle.run_io.specs.Form.{FormValue, Order}
use Rattle.snes_commands.specs.Job.{ShowsJob, run_line}
use Rattle.snes_commands.specs.Command.{Command, never}
use Rattle.snes_commands.specs.declared.run.Machines.{Machines}
use Rattle.snes_commands.specs.declared.run.Machines.TheVariants as machines

-- the words: inputs, frames and outputs
abbrev pub run_form : FormValue
run_form = record {
  numbered = false;
  inputs = Cart ∷ (Boot ∷ (Table ∷ (Script ∷ [])));
  optional = [];
  count = Some Frames;
  settings = [];
  outputs = Video ∷ (Sound ∷ []);
}

-- video and sound are what a run emits of the job that the inputs make, and the line is the run's
pub record MakesRun (emits : Job → List ℕ → List ℕ → Type 0) (order : Order) (told : Input → Option (List ℕ)) (contents : Out → List ℕ) (line : List ℕ) : Type 0 where
  pub job : Job
  pub shows : ShowsJob told order.count job
  pub emitted : emits job (contents Video) (contents Sound)
  pub says : line ≡ run_line job

abbrev pub run : (Job → List ℕ → List ℕ → Type 0) → Command
run emits = record { form = run_form; Makes = MakesRun emits; differs = never }

-- the machines of any way are ready for the job: those of one worker, or those of two
abbrev pub AreReady : {P T : Type 0} → (P → Job → Type 0) → (T → Job → Type 0) → Machines P T → Job → Type 0
AreReady plays turns (machines.Serial player) job = plays player job
AreReady plays turns (machines.Turns turning) job = turns turning job
AreReady plays turns (machines.Words turning) job = turns turning job
