use Rattle.std.proofs.Common.{arith}
use Rattle.spc_modes.proofs.Firsts.{first_of_table}
use Rattle.spc_modes.proofs.first.begins_with_byte.Goals as goal

pub returns : goal.returns
returns c = λ one row is r. first_of_table c.args.opcode row r (omega arith) one is
