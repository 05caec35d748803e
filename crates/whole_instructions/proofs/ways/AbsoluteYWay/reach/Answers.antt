use Rattle.whole_instructions.proofs.Reaching.{reaches_absolute_y}
use Rattle.whole_instructions.proofs.ways.AbsoluteYWay.reach.Goals as goal

pub returns-clause-reaches : goal.returns-clause-reaches
returns-clause-reaches c = rw (c.index_clocks.ensures.clocks, c.word.ensures, c.second.ensures) (reaches_absolute_y c.args.bus.now c.args.regs.now c.args.code.at c.args.code.clocks c.args.traffic c.requires)
