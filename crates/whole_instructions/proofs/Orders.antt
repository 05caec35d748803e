-- The orders of operations with data, by their addressing mode.
use Rattle.std.proofs.Common.{◌≡◌, Bool, refl}
use Rattle.cpu_tables.specs.declared.opcode.Row.{Row}
use Rattle.cpu_tables.specs.declared.regs.Regs.{Regs}
use Rattle.cpu_modes.specs.Addresses.{is_wide}
use Rattle.cpu_modes.specs.Orders.{by_mode, order}
use Rattle.cpu_modes.specs.Uses.{use_of}
use Rattle.cpu_modes.specs.declared.place.Direction.{Direction}
use Rattle.cpu_modes.specs.declared.uses.Use.{Use}
use Rattle.cpu_modes.specs.declared.uses.Width.{Width}
use Rattle.whole_instructions.specs.Fetching.{past}
use Rattle.whole_instructions.proofs.DataReads.{wide_past}

pub load_order : (row : Row) (width : Width) (wide : Bool) (r : Regs) → use_of row.op ≡ Use.Load width → wide ≡ is_wide width r
    → order row (past r 1) ≡ by_mode row.mode (record { direction = Direction.Load; wide = wide }) row (past r 1)
load_order row width wide r uses e = rw (uses, wide_past width r 1, e) refl

pub store_order : (row : Row) (width : Width) (wide : Bool) (r : Regs) → use_of row.op ≡ Use.Store width → wide ≡ is_wide width r
    → order row (past r 1) ≡ by_mode row.mode (record { direction = Direction.Store; wide = wide }) row (past r 1)
store_order row width wide r uses e = rw (uses, wide_past width r 1, e) refl

pub change_order : (row : Row) (width : Width) (wide : Bool) (r : Regs) → use_of row.op ≡ Use.Change width → wide ≡ is_wide width r
    → order row (past r 1) ≡ by_mode row.mode (record { direction = Direction.Change; wide = wide }) row (past r 1)
change_order row width wide r uses e = rw (uses, wide_past width r 1, e) refl
