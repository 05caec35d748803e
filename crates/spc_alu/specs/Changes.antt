-- Shifts, rotations, counts, TSET1 and TCLR1 (nocash fullsnes, "SNES APU SPC700 CPU ALU Commands"). An
-- operation that changes a byte m gives its new value and PSW. C of a shift is the bit that falls out; a
-- rotation puts the old carry in at the other end.
use Rattle.std.specs.Prelude.{ℕ, Bool, ◌+◌, ◌-◌, ◌*◌, ◌/◌, ◌%◌, ◌==◌, bit_and, bit_or}
use Rattle.status_bits.specs.StatusBits.{flag, put}
use Rattle.spc_tables.specs.declared.flags.TheConstants.{CARRY}
use Rattle.spc_alu.specs.Status.{bit_of, sign, with_nz}
use Rattle.spc_alu.specs.declared.changes.Changed.{Changed}

-- a value with N and Z from it
abbrev pub result_nz : ℕ → ℕ → Changed
result_nz v psw = record { value = v; psw = with_nz v psw }

-- a value with N and Z from it, and a carry
abbrev pub result_nzc : ℕ → Bool → ℕ → Changed
result_nzc v carry psw = record { value = v; psw = put (with_nz v psw) CARRY carry }

unfoldable pub shift_left : ℕ → ℕ → Changed
shift_left psw m = result_nzc (2 * m % 256) (sign m == 1) psw

unfoldable pub shift_right : ℕ → ℕ → Changed
shift_right psw m = result_nzc (m / 2) (m % 2 == 1) psw

unfoldable pub rotate_left : ℕ → ℕ → Changed
rotate_left psw m = result_nzc (2 * m % 256 + bit_of (flag psw CARRY)) (sign m == 1) psw

unfoldable pub rotate_right : ℕ → ℕ → Changed
rotate_right psw m = result_nzc (m / 2 + 128 * bit_of (flag psw CARRY)) (m % 2 == 1) psw

unfoldable pub increment : ℕ → ℕ → Changed
increment psw m = result_nz ((m + 1) % 256) psw

unfoldable pub decrement : ℕ → ℕ → Changed
decrement psw m = result_nz ((m + 255) % 256) psw

-- TSET1: the bits of A are set in m; N and Z are those of A minus m as it was
unfoldable pub set_bits : ℕ → ℕ → ℕ → Changed
set_bits a psw m = record { value = bit_or m a; psw = with_nz ((a + 256 - m) % 256) psw }

-- TCLR1: the bits of A are cleared in m; N and Z are those of A minus m as it was
unfoldable pub clear_bits : ℕ → ℕ → ℕ → Changed
clear_bits a psw m = record { value = m - bit_and a m; psw = with_nz ((a + 256 - m) % 256) psw }
