use Rattle.std.proofs.Common.{arith}
use Rattle.spc_tables.specs.declared.mode.SpcMode.TheVariants.{Implied}
use Rattle.spc_tables.specs.declared.operation.SpcOp.TheVariants.{Nop}
use Rattle.spc_tables.proofs.Matrix.{row_of_table}
use Rattle.spc_tables.proofs.rows.row.Goals as goal

pub returns : goal.returns
returns c = row_of_table c.args.op (record { op = Nop; mode = Implied }) (omega arith)
