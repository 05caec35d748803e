use Rattle.std.proofs.Common.{◌≡◌, drop}
use Rattle.plan_drive.specs.Paths.{slots_from}
use Rattle.snapshot.proofs.memory.count_slots.Given as goal

abbrev pub invariant-loop-step : goal.invariant-loop-step
invariant-loop-step l = slots_from l.steps 0 ≡ slots_from (drop l.step-index l.steps) l.count
