-- The number that digits of four bits stand for in decimal, when all are below ten, and how many A has.
use Rattle.std.specs.Prelude.{ℕ, zero, suc, ◌+◌, ◌*◌, ◌/◌, ◌%◌, ◌<◌, if◌then◌else◌}
use Rattle.status_bits.specs.StatusBits.{flag}
use Rattle.cpu_tables.specs.declared.flags.TheConstants.{MEMORY_8}
use Rattle.cpu_tables.specs.declared.regs.Regs.{Regs}

-- the number that the lowest n digits of four bits stand for
abbrev pub number : ℕ → ℕ → ℕ
number zero v = 0
number (suc n) v = v % 16 + 10 * number n (v / 16)

-- each of the lowest n digits is below ten
abbrev pub IsDecimal : ℕ → ℕ → Type 0
IsDecimal zero v = Unit {0}
IsDecimal (suc n) v = (v % 16 < 10) × IsDecimal n (v / 16)

-- how many digits A has at its width
abbrev pub digit_count : Regs → ℕ
digit_count r = if flag r.p MEMORY_8 then 2 else 4
