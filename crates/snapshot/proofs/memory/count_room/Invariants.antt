use Rattle.std.proofs.Common.{◌≡◌, ◌≤◌, ◌+◌, drop}
use Rattle.plan_drive.specs.Paths.{room_of}
use Rattle.snapshot.proofs.memory.count_room.Given as goal

abbrev pub invariant-loop-step : goal.invariant-loop-step
invariant-loop-step l = (l.count ≤ l.step-index) × (room_of l.steps ≡ l.count + room_of (drop l.step-index l.steps))
