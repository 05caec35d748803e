use Rattle.std.proofs.Common.{◌≡◌, ◌-◌, ◌≤◌}
use Rattle.console_steps.specs.ConsoleState.{ConsoleState}
use Rattle.console_machine.specs.Parts.{value_of}
use Rattle.console_machine.specs.Side.{IsSome, StandsAt}
use Rattle.console_machine.specs.Silent.{IsSilent}
use Rattle.console_machine.proofs.parts.Parts.hasten.Given as goal

abbrev pub invariant-steps : goal.invariant-steps
invariant-steps l = record {
  gone : (w : ConsoleState) → StandsAt (value_of l.initial.self) w → IsSilent l.until (value_of l.self) w;
  keeps : IsSome (value_of l.initial.self) → IsSome (value_of l.self);
  forward : l.initial.self.stamp ≤ l.self.stamp;
  region : l.self.region ≡ l.initial.self.region;
  waiting : l.self.waiting ≡ l.initial.self.waiting;
}

abbrev pub decreases-steps : goal.decreases-steps
decreases-steps l = l.until - l.self.stamp
