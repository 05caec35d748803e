use Rattle.std.proofs.Common.{◌≡◌, ◌≤◌, ◌-◌, length}
use Rattle.side_law.specs.Gone.{IsOnWay}
use Rattle.side_law.proofs.machine.Machine.advance.Given as goal

abbrev pub invariant-steps : goal.invariant-steps
invariant-steps g l =
    let M = g.Self.Machine in
    let P = g.P.Ports in
    record {
      gone : (m : M.State) (p : P.State) → M.stands l.fn.self m → P.stands l.fn.ports p
          → IsOnWay M.moves P.calls l.until (M.stands l.self) (P.stands l.ports) (M.waiting l.fn.self) (M.waiting l.self) m p;
      forward : M.stamp_of l.fn.self ≤ M.stamp_of l.self;
      fits : length (M.waiting l.fn.self) ≤ M.CAP → length (M.waiting l.self) ≤ M.CAP;
      in_order : P.clock l.ports ≤ M.stamp_of l.self;
      times : P.times l.ports ≡ P.times l.fn.ports;
      region : M.region_of l.self ≡ M.region_of l.fn.self;
    }

abbrev pub decreases-steps : goal.decreases-steps
decreases-steps g l = l.until - g.Self.Machine.stamp_of l.self
