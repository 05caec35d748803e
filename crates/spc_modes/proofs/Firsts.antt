-- Which instructions begin with the fetch of a byte after the opcode.
use Rattle.std.proofs.Common.{◌≡◌, ℕ, Bool, true, false, ◌<◌, ◌==◌, ◌&&◌, get_or, Option, Some, None, refl, sym, ap, ◌∙◌}
use Rattle.std.proofs.lemmas.Bool.{agree_below, agree_below_at, both_ways}
use Rattle.spc_tables.specs.Opcodes.{others, moves, matrix, entry_of, row_of}
use Rattle.spc_tables.specs.declared.mode.SpcMode.{SpcMode}
use Rattle.spc_tables.specs.declared.mode.SpcMode.TheVariants.{Accumulator, IndirectX, IndirectXIncrement, IndirectXIndirectY, YRelative}
use Rattle.spc_tables.specs.declared.opcode.SpcRow.{SpcRow}
use Rattle.spc_tables.specs.declared.regs.SpcRegs.{SpcRegs}
use Rattle.spc_modes.specs.Orders.{by_mode, first_byte, order, order_by}
use Rattle.spc_modes.specs.Uses.{use_of}
use Rattle.spc_modes.specs.declared.first.TheConstants.{FIRST}
use Rattle.spc_modes.specs.declared.uses.Use.{Use}

-- by its operands
unfoldable pub mode_begins : SpcMode → Bool
mode_begins Accumulator = false
mode_begins IndirectX = false
mode_begins IndirectXIncrement = false
mode_begins IndirectXIndirectY = false
mode_begins YRelative = false
mode_begins _ = true

-- and by what its operation does
unfoldable pub use_begins : Use → Bool
use_begins (Use.Internal cycles) = false
use_begins Use.Branch = false
use_begins Use.VectorCall = false
use_begins Use.Break = false
use_begins Use.Push = false
use_begins Use.Pull = false
use_begins Use.Return = false
use_begins Use.ReturnInterrupt = false
use_begins Use.Halt = false
use_begins _ = true

unfoldable pub begins : Option SpcRow → Bool
begins None = false
begins (Some row) = use_begins (use_of row.op) && mode_begins row.mode

mode_first : (m : SpcMode) (row : SpcRow) (r : SpcRegs) → mode_begins m ≡ true → by_mode m row r ≡ first_byte row r
unfolding mode_begins
mode_first Accumulator row r h = absurd (both_ways false refl h)
mode_first IndirectX row r h = absurd (both_ways false refl h)
mode_first IndirectXIncrement row r h = absurd (both_ways false refl h)
mode_first IndirectXIndirectY row r h = absurd (both_ways false refl h)
mode_first YRelative row r h = absurd (both_ways false refl h)
mode_first _ row r h = refl

use_first : (u : Use) (row : SpcRow) (r : SpcRegs) → use_begins u ≡ true → mode_begins row.mode ≡ true → order_by u row r ≡ first_byte row r
unfolding use_begins
use_first (Use.Internal cycles) row r h k = absurd (both_ways false refl h)
use_first Use.Branch row r h k = absurd (both_ways false refl h)
use_first Use.VectorCall row r h k = absurd (both_ways false refl h)
use_first Use.Break row r h k = absurd (both_ways false refl h)
use_first Use.Push row r h k = absurd (both_ways false refl h)
use_first Use.Pull row r h k = absurd (both_ways false refl h)
use_first Use.Return row r h k = absurd (both_ways false refl h)
use_first Use.ReturnInterrupt row r h k = absurd (both_ways false refl h)
use_first Use.Halt row r h k = absurd (both_ways false refl h)
use_first _ row r h k = mode_first row.mode row r k

left_of_both : (x y : Bool) → (x && y) ≡ true → x ≡ true
left_of_both true y h = refl
left_of_both false y h = absurd (both_ways false refl h)

right_of_both : (x y : Bool) → (x && y) ≡ true → y ≡ true
right_of_both true y h = h
right_of_both false y h = absurd (both_ways false refl h)

begins_first : (row : SpcRow) (r : SpcRegs) → begins (Some row) ≡ true → order row r ≡ first_byte row r
unfolding begins
begins_first row r h =
    use_first (use_of row.op) row r (left_of_both (use_begins (use_of row.op)) (mode_begins row.mode) h) (right_of_both (use_begins (use_of row.op)) (mode_begins row.mode) h)

-- the code's table, opcode by opcode
table_agrees : agree_below (λ i. get_or FIRST i 0 == 1) (λ i. begins (row_of i)) 256 ≡ true
unfolding begins use_begins mode_begins use_of row_of matrix others moves entry_of
table_agrees = refl

pub first_of_table : (opcode : ℕ) (row : SpcRow) (r : SpcRegs) → opcode < 256 → (get_or FIRST opcode 0 == 1) ≡ true → row_of opcode ≡ Some row → order row r ≡ first_byte row r
first_of_table opcode row r h one is =
    begins_first row r (ap begins (sym is) ∙ (sym (agree_below_at (λ i. get_or FIRST i 0 == 1) (λ i. begins (row_of i)) 256 opcode table_agrees h) ∙ one))
