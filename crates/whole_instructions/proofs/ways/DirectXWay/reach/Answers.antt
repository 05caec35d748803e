use Rattle.whole_instructions.proofs.Reaching.{reaches_direct_x}
use Rattle.whole_instructions.proofs.ways.DirectXWay.reach.Goals as goal

pub returns-clause-reaches : goal.returns-clause-reaches
returns-clause-reaches c = rw (c.low_clocks.ensures.clocks, c.direct_address.ensures.exact, c.first-offset.ensures) (reaches_direct_x c.args.bus.now c.args.regs.now c.args.code.at c.args.code.clocks c.args.traffic c.requires)
