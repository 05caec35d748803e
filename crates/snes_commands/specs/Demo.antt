-- THE COMMAND `demo`: the run of the image of a number, in memory.
use Rattle.std.specs.Prelude.{◌≡◌, ℕ, ◌*◌, ◌%◌, ◌^◌, ◌<◌, true, List, [], length, sum, slice_index, Option, Some}
use Rattle.snes_defs.specs.declared.cart.Job.{Job}
use Rattle.snes_defs.specs.declared.region.Region.TheVariants.{Ntsc}
use Rattle.snes_defs.specs.declared.profile.Profile.TheVariants.{First}
use Rattle.clock_ratio.specs.Stamp.{end_stamp_of, samples_before_of}
use Rattle.demo_files.specs.Demo.{demo_boot}
use Rattle.shelf.specs.declared.shelves.Input.{Input}
use Rattle.shelf.specs.declared.shelves.Out.{Out}
use Rattle.run_io.specs.declared.options.Count.TheVariants.{Frames}
use Rattle.run_io.specs.Line.{line_of, demo_text}
use Rattle.run_io.specs.Form.{FormValue, Order}
use Rattle.snes_commands.specs.Kinds.{IsCartIn}
use Rattle.snes_commands.specs.Make.{IsImage}
use Rattle.snes_commands.specs.Command.{Command, never}

-- the words: a number, and frames. It loads and creates nothing.
abbrev pub demo_form : FormValue
demo_form = record { numbered = true; inputs = []; optional = []; count = Some Frames; settings = []; outputs = [] }

-- the job of a demo: the cartridge that is read of the image of a number, the demo's boot ROM, a table
-- whose entry i is 2 i, and the empty script, in Ntsc and of the first profile
pub record IsDemoJob (number frames : ℕ) (job : Job) : Type 0 where
  pub image : List ℕ
  pub of_number : IsImage number image
  pub cart : IsCartIn image job.cart
  pub boot : job.boot ≡ demo_boot
  pub table_size : length job.table ≡ 512
  pub table : (i : ℕ) → i < 512 → slice_index job.table i ≡ 2 * i
  pub script : job.script ≡ record { region = Ntsc; profile = First; spans = []; resets = []; room = 0 }
  pub frames_are : job.frames ≡ frames
  pub region : job.region ≡ Ntsc

-- the sum of bytes, as 64 bits keep it
abbrev pub sum_in : List ℕ → ℕ
sum_in bytes = sum bytes % 2 ^ 64

-- the line has the sums of what the run of the demo's job emits
pub record MakesDemo (emits : Job → List ℕ → List ℕ → Type 0) (order : Order) (told : Input → Option (List ℕ)) (contents : Out → List ℕ) (line : List ℕ) : Type 0 where
  pub job : Job
  pub of_number : IsDemoJob order.number order.count job
  pub video : List ℕ
  pub audio : List ℕ
  pub emitted : emits job video audio
  pub says : line ≡ line_of (demo_text order.count (samples_before_of Ntsc (end_stamp_of Ntsc order.count)) (sum_in video) (sum_in audio))

abbrev pub demo : (Job → List ℕ → List ℕ → Type 0) → Command
demo emits = record { form = demo_form; Makes = MakesDemo emits; differs = never }
