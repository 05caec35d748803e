use Rattle.whole_instructions.proofs.Reaching.{reaches_absolute}
use Rattle.whole_instructions.proofs.ways.AbsoluteWay.reach.Goals as goal

pub returns-clause-reaches : goal.returns-clause-reaches
returns-clause-reaches c = rw (c.word.ensures, c.second.ensures) (reaches_absolute c.args.bus.now c.args.regs.now c.args.code.at c.args.code.clocks c.args.traffic c.requires)
