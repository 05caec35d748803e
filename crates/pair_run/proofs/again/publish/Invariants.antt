use Rattle.std.proofs.Common.{◌≡◌}
use Rattle.pair_run.specs.Over.{HasTold}
use Rattle.pair_run.proofs.again.publish.Given as goal

abbrev pub invariant-loop : goal.invariant-loop
invariant-loop g l =
    let wire = g.W.Wire in
    record {
      still_of : wire.is_pass_of l.wire l.pass;
      side : (wire.seen l.pass).side ≡ (wire.seen l.initial.pass).side;
      told : HasTold (wire.region_of l.wire) l.at (wire.seen l.initial.pass).half (wire.seen l.pass).half;
    }
