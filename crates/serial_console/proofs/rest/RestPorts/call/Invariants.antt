use Rattle.std.proofs.Common.{◌≡◌, ◌-◌}
use Rattle.serial_console.specs.Rest.{RestState, StandsBehind}
use Rattle.serial_console.specs.Followed.{HasCome}
use Rattle.serial_console.proofs.rest.RestPorts.call.Given as goal

abbrev pub invariant-steps : goal.invariant-steps
invariant-steps g l =
    let S = g.S.Machine in
    record {
      came : (p : RestState S.State) → StandsBehind S.stands S.waiting l.fn.self p → HasCome S.moves S.MOST S.stands S.waiting l.self l.at p;
      end : l.self.end ≡ l.fn.self.end;
    }

abbrev pub decreases-steps : goal.decreases-steps
decreases-steps g l = l.at - g.S.Machine.stamp_of l.self.sound
