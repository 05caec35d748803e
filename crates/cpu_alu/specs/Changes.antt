-- Shifts, rotations, counts, TSB and TRB (W65C816S data sheet, operations and status register). An operation
-- that changes its operand m gives a new value and a status byte. C of a shift is the bit that falls out; a
-- rotation puts the old carry in at the other end.
use Rattle.std.specs.Prelude.{ℕ, Bool, ◌+◌, ◌-◌, ◌*◌, ◌/◌, ◌%◌, ◌==◌, bit_and, bit_or, if◌then◌else◌}
use Rattle.status_bits.specs.StatusBits.{flag, put}
use Rattle.cpu_tables.specs.declared.regs.Regs.{Regs}
use Rattle.cpu_tables.specs.declared.flags.TheConstants.{CARRY, ZERO}
use Rattle.cpu_alu.specs.declared.changes.Changed.{Changed}
use Rattle.cpu_alu.specs.Width.{accumulator, bit_of, top_bit, with_nz, put_a}
use Rattle.cpu_tables.specs.Status.{size, memory_size}

-- a value with N and Z from it
abbrev pub result_nz : ℕ → ℕ → ℕ → Changed
result_nz size v p = record { value = v; p = with_nz size v p }

-- a value with N and Z from it, and a carry
abbrev pub result_nzc : ℕ → ℕ → Bool → ℕ → Changed
result_nzc size v carry p = record { value = v; p = put (with_nz size v p) CARRY carry }

unfoldable pub shift_left : ℕ → ℕ → ℕ → Changed
shift_left size p m = result_nzc size (2 * m % size) (top_bit size m == 1) p

unfoldable pub shift_right : ℕ → ℕ → ℕ → Changed
shift_right size p m = result_nzc size (m / 2) (m % 2 == 1) p

unfoldable pub rotate_left : ℕ → ℕ → ℕ → Changed
rotate_left size p m = result_nzc size (2 * m % size + bit_of (flag p CARRY)) (top_bit size m == 1) p

unfoldable pub rotate_right : ℕ → ℕ → ℕ → Changed
rotate_right size p m = result_nzc size (m / 2 + size / 2 * bit_of (flag p CARRY)) (m % 2 == 1) p

unfoldable pub increment : ℕ → ℕ → ℕ → Changed
increment size p m = result_nz size ((m + 1) % size) p

unfoldable pub decrement : ℕ → ℕ → ℕ → Changed
decrement size p m = result_nz size ((m + size - 1) % size) p

-- TSB: the bits of A are set in the operand, and Z is that of A and the operand as it was
unfoldable pub set_bits : ℕ → ℕ → ℕ → Changed
set_bits a p m = record { value = bit_or m a; p = put p ZERO (bit_and a m == 0) }

-- TRB: the bits of A are cleared in the operand, and Z is that of A and the operand as it was
unfoldable pub clear_bits : ℕ → ℕ → ℕ → Changed
clear_bits a p m = record { value = m - bit_and a m; p = put p ZERO (bit_and a m == 0) }

-- the operand of a change: A itself, or what was read
abbrev pub operand : Bool → Regs → ℕ → ℕ
operand on_a r word = if on_a then accumulator r else word % memory_size r

-- the registers after a change: the status, and A where it was the operand
unfoldable pub with_change : Bool → Regs → Changed → Regs
with_change on_a r c = record r { a = if on_a then put_a r c.value else r.a; p = c.p }
