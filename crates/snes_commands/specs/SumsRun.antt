-- THE COMMAND `sums`: four inputs make a job, and of what its run emits the sums are written.
use Rattle.std.specs.Prelude.{◌≡◌, ℕ, false, List, [], ◌∷◌, Option, Some}
use Rattle.snes_defs.specs.declared.cart.Job.{Job}
use Rattle.shelf.specs.declared.shelves.Input.{Input}
use Rattle.shelf.specs.declared.shelves.Input.TheVariants.{Cart, Boot, Table, Script}
use Rattle.shelf.specs.declared.shelves.Out.{Out}
use Rattle.shelf.specs.declared.shelves.Out.TheVariants.{Sums}
use Rattle.frame_sums.specs.Text.{sums_text}
use Rattle.run_io.specs.declared.options.Count.TheVariants.{Frames}
use Rattle.run_io.specs.Form.{FormValue, Order}
use Rattle.snes_commands.specs.Job.{ShowsJob, run_line}
use Rattle.snes_commands.specs.Command.{Command, never}

-- the words: inputs, of which all but the cartridge may be left out, frames, and an output
abbrev pub sums_form : FormValue
sums_form = record {
  numbered = false;
  inputs = Cart ∷ (Boot ∷ (Table ∷ (Script ∷ [])));
  optional = Boot ∷ (Table ∷ (Script ∷ []));
  count = Some Frames;
  settings = [];
  outputs = Sums ∷ [];
}

-- the sums are those of the video and the audio that a run emits of the job that the inputs make, and the line is the run's
pub record MakesSums (emits : Job → List ℕ → List ℕ → Type 0) (order : Order) (told : Input → Option (List ℕ)) (contents : Out → List ℕ) (line : List ℕ) : Type 0 where
  pub job : Job
  pub shows : ShowsJob told order.count job
  pub video : List ℕ
  pub audio : List ℕ
  pub emitted : emits job video audio
  pub sums : contents Sums ≡ sums_text job.region job.frames video audio
  pub says : line ≡ run_line job

abbrev pub sums : (Job → List ℕ → List ℕ → Type 0) → Command
sums emits = record { form = sums_form; Makes = MakesSums emits; differs = never }
