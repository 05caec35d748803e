-- THE COMMAND `spc`: four inputs make a job, and the sound side at the end of its run becomes a sound file, with tags.
use Rattle.std.specs.Prelude.{◌≡◌, ℕ, false, List, [], ◌∷◌, Option, Some}
use Rattle.snes_defs.specs.declared.cart.Job.{Job}
use Rattle.shelf.specs.declared.shelves.Input.{Input}
use Rattle.shelf.specs.declared.shelves.Input.TheVariants.{Cart, Boot, Table, Script}
use Rattle.shelf.specs.declared.shelves.Out.{Out}
use Rattle.shelf.specs.declared.shelves.Out.TheVariants.{Spc}
use Rattle.run_io.specs.declared.options.Count.TheVariants.{Frames}
use Rattle.run_io.specs.Form.{FormValue, Order}
use Rattle.snes_commands.specs.Job.{ShowsJob, run_line}
use Rattle.snes_commands.specs.Tagging.{tag_settings, tagged_by}
use Rattle.snes_commands.specs.Command.{Command, never}

-- the words: inputs, of which all but the cartridge may be left out, frames, tags, and an output
abbrev pub spc_form : FormValue
spc_form = record {
  numbered = false;
  inputs = Cart ∷ (Boot ∷ (Table ∷ (Script ∷ [])));
  optional = Boot ∷ (Table ∷ (Script ∷ []));
  count = Some Frames;
  settings = tag_settings;
  outputs = Spc ∷ [];
}

-- the file is a sound file of the job which the inputs make, with the tags that the words set, and the line is that of its run
pub record MakesSoundFile (sounds : Job → List ℕ → Type 0) (order : Order) (told : Input → Option (List ℕ)) (contents : Out → List ℕ) (line : List ℕ) : Type 0 where
  pub job : Job
  pub shows : ShowsJob told order.count job
  pub file : List ℕ
  pub sounded : sounds job file
  pub tagged : contents Spc ≡ tagged_by order.pairs file
  pub says : line ≡ run_line job

abbrev pub spc : (Job → List ℕ → Type 0) → Command
spc sounds = record { form = spc_form; Makes = MakesSoundFile sounds; differs = never }
