use Rattle.std.proofs.Common.{◌≡◌, ◌-◌, ◌≤◌, length}
use Rattle.side_law.specs.Gone.{IsOnWay}
use Rattle.console_steps.specs.ConsoleState.{ConsoleState, console_moves}
use Rattle.console_machine.specs.Parts.{value_of}
use Rattle.console_machine.specs.Side.{StandsAt}
use Rattle.console_machine.specs.Keeps.{Keeps}
use Rattle.console_machine.proofs.parts.Parts.advance.Given as goal

abbrev pub invariant-steps : goal.invariant-steps
invariant-steps g l =
    let P = g.P.Ports in
    record {
      gone : (w : ConsoleState) (p : P.State) → StandsAt (value_of l.fn.self) w → P.stands l.fn.ports p
          → IsOnWay console_moves P.calls l.until (StandsAt (value_of l.self)) (P.stands l.ports) l.fn.self.waiting.items l.self.waiting.items w p;
      keeps : Keeps l.fn.self l.self;
      forward : l.fn.self.stamp ≤ l.self.stamp;
      fits : length l.self.waiting.items ≤ 65536;
      in_order : P.clock l.ports ≤ l.self.stamp;
      times : P.times l.ports ≡ P.times l.fn.ports;
    }

abbrev pub decreases-steps : goal.decreases-steps
decreases-steps g l = l.until - l.self.stamp
