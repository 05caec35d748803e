-- THE COMMAND `check`: four inputs make a job, and the sums of its run are compared with those of a file.
use Rattle.std.specs.Prelude.{◌≡◌, ℕ, Bool, false, List, [], ◌∷◌, take, codes, Option, Some, None, IfSome}
use Rattle.std.specs.Str.{bytes_eq}
use Rattle.snes_defs.specs.declared.cart.Job.{Job}
use Rattle.snes_defs.specs.declared.ports.Side.TheVariants as side
use Rattle.shelf.specs.declared.shelves.Input.{Input}
use Rattle.shelf.specs.declared.shelves.Input.TheVariants.{Cart, Boot, Table, Script, Sums}
use Rattle.shelf.specs.declared.shelves.Out.{Out}
use Rattle.frame_sums.specs.declared.compare.Difference.{Difference}
use Rattle.frame_sums.specs.declared.compare.Difference.TheVariants as differs
use Rattle.frame_sums.specs.SumsFile.{SumsIn}
use Rattle.frame_sums.specs.Compare.{run_pair, run_all, IsFound}
use Rattle.run_io.specs.declared.options.Count.TheVariants.{Frames}
use Rattle.run_io.specs.Form.{FormValue, Order}
use Rattle.run_io.specs.Line.{line_of, frame_differs_text, frames_differ_text, all_differ_text}
use Rattle.snes_commands.specs.Job.{ShowsJob, run_line}
use Rattle.snes_commands.specs.Kinds.{IsSumsIn}
use Rattle.snes_commands.specs.Command.{Command}

-- the words: inputs, of which boot ROM, table and script may be left out, and frames
abbrev pub check_form : FormValue
check_form = record {
  numbered = false;
  inputs = Cart ∷ (Boot ∷ (Table ∷ (Script ∷ (Sums ∷ []))));
  optional = Boot ∷ (Table ∷ (Script ∷ []));
  count = Some Frames;
  settings = [];
  outputs = [];
}

-- the line of a difference
abbrev pub difference_text : Difference → List ℕ
difference_text (differs.Picture frame) = frame_differs_text frame side.Console
difference_text (differs.Sound frame) = frame_differs_text frame side.Sound
difference_text differs.Frames = frames_differ_text
difference_text differs.AllPictures = all_differ_text side.Console
difference_text differs.AllSound = all_differ_text side.Sound

-- the line of what was found: the run's, if there is no difference
abbrev pub found_line : Job → Option Difference → List ℕ
found_line job None = run_line job
found_line job (Some difference) = line_of (difference_text difference)

-- a line that says that there is a difference
abbrev pub says_difference : List ℕ → Bool
says_difference line = bytes_eq (take 7 line) (codes "differs")

-- The run emits this video and this audio, of the job that the inputs make; the file has these sums; and this is the first
-- difference of the two, or there is none. The line says which.
pub record MakesCheck (emits : Job → List ℕ → List ℕ → Type 0) (order : Order) (told : Input → Option (List ℕ)) (contents : Out → List ℕ) (line : List ℕ) : Type 0 where
  pub job : Job
  pub shows : ShowsJob told order.count job
  pub video : List ℕ
  pub audio : List ℕ
  pub emitted : emits job video audio
  pub file : SumsIn
  pub file_is : IfSome (told Sums) (λ bytes. IsSumsIn bytes file)
  pub found : Option Difference
  pub compared : IsFound file job.frames (run_pair job.region video audio) (run_all video audio) found
  pub says : line ≡ found_line job found

abbrev pub check : (Job → List ℕ → List ℕ → Type 0) → Command
check emits = record { form = check_form; Makes = MakesCheck emits; differs = says_difference }
