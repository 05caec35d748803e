use Rattle.std.proofs.Common.{◌≡◌}
use Rattle.port_rows.proofs.threads.read_one.Given as goal

abbrev pub invariant-loop-again : goal.invariant-loop-again
invariant-loop-again g l =
    let wire = g.W.Wire in
    record {
      of : wire.is_pass_of l.wire l.sound;
      side : (wire.seen l.sound).side ≡ (wire.seen l.fn.sound).side;
      clock : (wire.seen l.sound).half.at ≡ (wire.seen l.fn.sound).half.at;
    }
