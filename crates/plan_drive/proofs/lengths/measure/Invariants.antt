use Rattle.std.proofs.Common.{◌≤◌, drop}
use Rattle.input_files.specs.Plan.{frames_in, NamesBelow}
use Rattle.plan_drive.proofs.Counting.{Counted}
use Rattle.plan_drive.proofs.lengths.measure.Given as goal

abbrev pub invariant-loop-step : goal.invariant-loop-step
invariant-loop-step l = record {
  counted : Counted l.region l.plan.steps (drop l.step-index l.step-items) l.frames l.samples l.path l.held;
  few : frames_in l.step-items ≤ 36000;
  names : NamesBelow 8 (drop l.step-index l.step-items);
}
