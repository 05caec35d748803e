use Rattle.std.proofs.Common.{ℕ, drop}
use Rattle.snes_defs.specs.declared.cart.Job.{Job}
use Rattle.input_files.specs.Plan.{NamesBelow}
use Rattle.plan_drive.specs.Paths.{no_paths}
use Rattle.snapshot.specs.Positions.{IsRested, slot_count}
use Rattle.snapshot.proofs.Steps.{Reached}
use Rattle.snapshot.proofs.rewind.Rewind.play.Given as goal

abbrev pub invariant-loop-step : goal.invariant-loop-step
invariant-loop-step g l = record {
  reached : (job : Job) (n : ℕ) → IsRested job n no_paths l.initial.self → Reached job n l.plan.steps (drop l.step-index l.step-items) (g.K.Sink.holds l.sink) l.initial.self l.self;
  names : NamesBelow (slot_count l.self) (drop l.step-index l.step-items);
  only : g.K.Sink.only_takes l.initial.sink l.sink;
}
