use Rattle.std.proofs.Common.{arith}
use Rattle.snes_defs.proofs.bytes.are_bytes.Goals as goal

pub returns : goal.returns
returns c = λ i. omega (arith, c.type_inv.all i)
