use Rattle.whole_instructions.proofs.Reaching.{reaches_stack}
use Rattle.whole_instructions.proofs.ways.StackRelativeWay.reach.Goals as goal

pub returns-clause-reaches : goal.returns-clause-reaches
returns-clause-reaches c = rw (c.first-offset.ensures) (reaches_stack c.args.bus.now c.args.regs.now c.args.code.at c.args.code.clocks c.args.traffic c.requires)
