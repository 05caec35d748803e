use Rattle.std.proofs.Common.{refl, ◌∙◌}
use Rattle.pair_run.proofs.LegGoesOn.{told_nothing, told_then}
use Rattle.pair_run.proofs.again.publish.Goals as goal

pub loop-init : goal.loop-init
loop-init g c = record {
  still_of = c.requires.of;
  side = refl;
  told = told_nothing (g.W.Wire.region_of c.args.wire.now) c.args.at (g.W.Wire.seen c.args.pass.now).half c.requires.clock c.requires.reach;
}

pub returns-then-tell : goal.returns-then-tell
returns-then-tell g c = record {
  still_of = c.tell.ensures.still_of;
  side = c.tell.ensures.side ∙ c.loop.invariant.side;
  told = told_then (g.W.Wire.region_of c.args.wire.now) c.args.at (g.W.Wire.seen c.args.pass.now).half (g.W.Wire.seen c.loop.pass).half (g.W.Wire.seen c.tell.new.pass).half
      c.loop.invariant.told c.tell.ensures.told;
}

pub loop-preserved : goal.loop-preserved
loop-preserved g c = record {
  still_of = c.tell.ensures.still_of;
  side = c.tell.ensures.side ∙ c.loop.invariant.side;
  told = told_then (g.W.Wire.region_of c.args.wire.now) c.args.at (g.W.Wire.seen c.args.pass.now).half (g.W.Wire.seen c.loop.pass).half (g.W.Wire.seen c.tell.new.pass).half
      c.loop.invariant.told c.tell.ensures.told;
}
