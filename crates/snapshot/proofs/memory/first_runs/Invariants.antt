use Rattle.std.proofs.Common.{◌≡◌, ◌<◌, ℕ, List, length, max, slice_index_or}
use Rattle.snes_defs.specs.declared.cart.Job.{Job}
use Rattle.snapshot.specs.declared.run.Run.{Run}
use Rattle.snapshot.specs.Positions.{HoldsPath}
use Rattle.plan_drive.specs.Paths.{empty_path}
use Rattle.snapshot.proofs.memory.first_runs.Given as goal

-- the first runs are made
pub record AreFirst (job : Job) (n number : ℕ) (runs : List Run) : Type 0 where
  pub count : length runs ≡ number
  pub starts : (k : ℕ) (other : Run) → k < length runs → HoldsPath job n empty_path (slice_index_or runs k other)

abbrev pub invariant-runs : goal.invariant-runs
invariant-runs l = AreFirst l.job (max l.job.script.room l.spans) l.counter l.runs.items
