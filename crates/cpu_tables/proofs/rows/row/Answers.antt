use Rattle.std.proofs.Common.{arith}
use Rattle.cpu_tables.specs.declared.mode.Mode.TheVariants.{Immediate}
use Rattle.cpu_tables.specs.declared.operation.Op.TheVariants.{Adc}
use Rattle.cpu_tables.proofs.Matrix.{row_of_table}
use Rattle.cpu_tables.proofs.rows.row.Goals as goal

pub returns : goal.returns
returns c = row_of_table c.args.op (record { op = Adc; mode = Immediate }) (omega arith)
