use Rattle.std.proofs.Common.{◌≡◌, ◌≤◌}
use Rattle.port_rows.proofs.threads.write_one.Given as goal

abbrev pub invariant-loop-again : goal.invariant-loop-again
invariant-loop-again g l =
    let wire = g.W.Wire in
    record {
      of : wire.is_pass_of l.wire l.console;
      side : (wire.seen l.console).side ≡ (wire.seen l.fn.console).side;
      clock : (wire.seen l.console).half.at ≤ l.at;
    }
