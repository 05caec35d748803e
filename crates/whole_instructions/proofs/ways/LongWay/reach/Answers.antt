use Rattle.whole_instructions.proofs.Reaching.{reaches_long}
use Rattle.whole_instructions.proofs.ways.LongWay.reach.Goals as goal

pub returns-clause-reaches : goal.returns-clause-reaches
returns-clause-reaches c = rw (c.third-bank.ensures, c.word.ensures) (reaches_long c.args.bus.now c.args.regs.now c.args.code.at c.args.code.clocks c.args.traffic c.requires)
