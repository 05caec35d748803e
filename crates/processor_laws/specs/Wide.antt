-- The operations that take or make all 16 bits of A at any width.
use Rattle.std.specs.Prelude.{Bool, true, false}
use Rattle.cpu_tables.specs.declared.operation.Op.{Op}
use Rattle.cpu_tables.specs.declared.operation.Op.TheVariants.{Tdc, Tsc, Xba, Mvn, Mvp, Reset}

abbrev pub takes_all_of_a : Op → Bool
takes_all_of_a Tdc = true
takes_all_of_a Tsc = true
takes_all_of_a Xba = true
takes_all_of_a Mvn = true
takes_all_of_a Mvp = true
takes_all_of_a Reset = true
takes_all_of_a _ = false
