use Rattle.whole_instructions.proofs.Reaching.{reaches_absolute_x}
use Rattle.whole_instructions.proofs.ways.AbsoluteXWay.reach.Goals as goal

pub returns-clause-reaches : goal.returns-clause-reaches
returns-clause-reaches c = rw (c.index_clocks.ensures.clocks, c.word.ensures, c.second.ensures) (reaches_absolute_x c.args.bus.now c.args.regs.now c.args.code.at c.args.code.clocks c.args.traffic c.requires)
