use Rattle.processor_laws.proofs.BinarySums.{addition_taken_back}
use Rattle.processor_laws.proofs.order.subtraction_takes_back_addition.Goals as goal

pub returns : goal.returns
returns c = addition_taken_back c.args.mode c.args.regs c.args.word c.requires.binary
