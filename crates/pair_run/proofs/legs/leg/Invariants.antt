use Rattle.std.proofs.Common.{◌≡◌, ◌+◌, ◌-◌, ◌*◌, ◌≤◌, ℕ, length}
use Rattle.clock_ratio.specs.Stamp.{window_of}
use Rattle.port_wire.specs.Tally.{HasRisenBy}
use Rattle.pair_run.specs.Leg.{HasRun, IsBeside}
use Rattle.pair_run.proofs.Rows.{InRowAt}
use Rattle.pair_run.proofs.legs.leg.Given as goal

abbrev pub invariant-steps : goal.invariant-steps
invariant-steps g l =
    let wire = g.W.Wire in
    let machine = g.M.Machine in
    record {
      still_of : wire.is_pass_of l.wire l.pass;
      side : (wire.seen l.pass).side ≡ (wire.seen l.fn.pass).side;
      beside : IsBeside (wire.region_of l.wire) (machine.region_of l.machine) (machine.stamp_of l.machine) (wire.seen l.pass).half;
      room : length (machine.waiting l.machine) + machine.MOST ≤ machine.CAP;
      ran : HasRun (wire.seen l.fn.pass).side machine.moves (window_of (wire.region_of l.wire)) l.end (machine.stands l.fn.machine) (machine.stands l.machine) (wire.seen l.fn.pass).half (wire.seen l.pass).half (machine.waiting l.fn.machine) (machine.waiting l.machine);
      few : l.tried ≤ l.tries;
      -- all tries but the first were refusals in a row
      risen : (before : ℕ) → HasRisenBy 0 before (wire.seen l.fn.pass).half.tally.refused → HasRisenBy (l.tried - 1) before (wire.seen l.pass).half.tally.refused;
      in_row : 1 ≤ l.tried → InRowAt machine.moves (machine.stands l.machine) (machine.stamp_of l.machine) (l.tried - 1) (wire.seen l.pass).half;
    }

-- the stamps to the end, and the tries that are left at one
abbrev pub decreases-steps : goal.decreases-steps
decreases-steps g l = (l.end - g.M.Machine.stamp_of l.machine) * (l.tries + 1) + (l.tries - l.tried)
