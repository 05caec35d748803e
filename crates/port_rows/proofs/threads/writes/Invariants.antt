use Rattle.std.proofs.Common.{◌≡◌, ◌*◌, ◌≤◌}
use Rattle.port_rows.proofs.threads.writes.Given as goal

abbrev pub invariant-loop-k : goal.invariant-loop-k
invariant-loop-k g l =
    let wire = g.W.Wire in
    record {
      of : wire.is_pass_of l.wire l.console;
      side : (wire.seen l.console).side ≡ (wire.seen l.fn.console).side;
      clock : (wire.seen l.console).half.at ≤ l.k * 33792;
    }
