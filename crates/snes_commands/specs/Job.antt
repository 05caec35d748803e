-- The job that four inputs make, and the line of its run.
use Rattle.std.specs.Prelude.{◌≡◌, ℕ, List, Option, IfSome}
use Rattle.snes_defs.specs.declared.cart.Job.{Job}
use Rattle.clock_ratio.specs.Stamp.{end_stamp_of, samples_before_of}
use Rattle.shelf.specs.declared.shelves.Input.{Input}
use Rattle.shelf.specs.declared.shelves.Input.TheVariants.{Cart, Boot, Table, Script}
use Rattle.input_files.specs.Table.{IsTableFile}
use Rattle.run_io.specs.Line.{line_of, frames_text}
use Rattle.snes_commands.specs.Kinds.{IsCartIn, IsScriptIn}

-- the job of so many frames is the one that the inputs make, as far as they are told: each was read so
pub record ShowsJob (told : Input → Option (List ℕ)) (frames : ℕ) (job : Job) : Type 0 where
  pub cart : IfSome (told Cart) (λ bytes. IsCartIn bytes job.cart)
  pub boot : IfSome (told Boot) (λ bytes. job.boot ≡ bytes)
  pub table : IfSome (told Table) (λ bytes. IsTableFile bytes job.table)
  pub script : IfSome (told Script) (λ bytes. IsScriptIn bytes job.script)
  pub frames_are : job.frames ≡ frames
  pub region : job.region ≡ job.script.region

-- the line of a job that was run: its frames, and the samples that lie before its end
abbrev pub run_line : Job → List ℕ
run_line job = line_of (frames_text job.frames (samples_before_of job.region (end_stamp_of job.region job.frames)))
