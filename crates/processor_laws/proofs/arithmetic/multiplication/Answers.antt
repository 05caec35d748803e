use Rattle.processor_laws.proofs.Quotients.{product}
use Rattle.processor_laws.proofs.arithmetic.multiplication.Goals as goal

pub returns : goal.returns
returns c = product c.args.mode c.args.regs
