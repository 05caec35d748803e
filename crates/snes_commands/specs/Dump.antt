-- THE COMMAND `dump`: four inputs make a job, and the state that its run leaves becomes a file.
use Rattle.std.specs.Prelude.{◌≡◌, ℕ, false, List, [], ◌∷◌, Option, Some}
use Rattle.snes_defs.specs.declared.cart.Job.{Job}
use Rattle.shelf.specs.declared.shelves.Input.{Input}
use Rattle.shelf.specs.declared.shelves.Input.TheVariants.{Cart, Boot, Table, Script}
use Rattle.shelf.specs.declared.shelves.Out.{Out}
use Rattle.shelf.specs.declared.shelves.Out.TheVariants.{State}
use Rattle.run_io.specs.declared.options.Count.TheVariants.{Frames}
use Rattle.run_io.specs.Form.{FormValue, Order}
use Rattle.snes_commands.specs.Job.{ShowsJob, run_line}
use Rattle.snes_commands.specs.Command.{Command, never}

-- the words: inputs, of which all but the cartridge may be left out, frames, and an output
abbrev pub dump_form : FormValue
dump_form = record {
  numbered = false;
  inputs = Cart ∷ (Boot ∷ (Table ∷ (Script ∷ [])));
  optional = Boot ∷ (Table ∷ (Script ∷ []));
  count = Some Frames;
  settings = [];
  outputs = State ∷ [];
}

-- the file has the bytes of the state that a run of the job leaves which the inputs make, and the line is the run's
pub record MakesDump (leaves : Job → List ℕ → Type 0) (order : Order) (told : Input → Option (List ℕ)) (contents : Out → List ℕ) (line : List ℕ) : Type 0 where
  pub job : Job
  pub shows : ShowsJob told order.count job
  pub left : leaves job (contents State)
  pub says : line ≡ run_line job

abbrev pub dump : (Job → List ℕ → Type 0) → Command
dump leaves = record { form = dump_form; Makes = MakesDump leaves; differs = never }
