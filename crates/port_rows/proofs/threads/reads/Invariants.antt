use Rattle.std.proofs.Common.{◌≡◌}
use Rattle.port_rows.proofs.threads.reads.Given as goal

abbrev pub invariant-loop-k : goal.invariant-loop-k
invariant-loop-k g l =
    let wire = g.W.Wire in
    record {
      of : wire.is_pass_of l.wire l.sound;
      side : (wire.seen l.sound).side ≡ (wire.seen l.fn.sound).side;
      clock : (wire.seen l.sound).half.at ≡ 0;
    }
