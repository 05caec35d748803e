use Rattle.std.proofs.Common.{arith}
use Rattle.processor_laws.proofs.Quotients.{whole, remainder_below}
use Rattle.processor_laws.proofs.arithmetic.division.Goals as goal

pub returns-clause-whole : goal.returns-clause-whole
returns-clause-whole c = whole c.args.mode c.args.regs (omega arith)

pub returns-clause-remainder : goal.returns-clause-remainder
returns-clause-remainder c = remainder_below c.args.mode c.args.regs
