use Rattle.std.proofs.Common.{arith}
use Rattle.processor_laws.proofs.Quotients.{told}
use Rattle.processor_laws.proofs.arithmetic.division_tells_of_its_overflow.Goals as goal

pub returns : goal.returns
returns c = told c.args.mode c.args.regs (omega arith)
