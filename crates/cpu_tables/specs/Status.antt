-- How wide A, a memory operand and the indexes are, by flags M and X (W65C816S data sheet, status register).
use Rattle.std.specs.Prelude.{ℕ, if◌then◌else◌}
use Rattle.status_bits.specs.StatusBits.{flag}
use Rattle.cpu_tables.specs.declared.regs.Regs.{Regs}
use Rattle.cpu_tables.specs.declared.flags.TheConstants.{INDEX_8, MEMORY_8}

-- how many numbers there are at the width that a flag of the status byte gives: bit on, 8 bits; off, 16
abbrev pub size : ℕ → ℕ → ℕ
size status width = if flag status width then 256 else 65536

-- how many numbers A and a memory operand can be
abbrev pub memory_size : Regs → ℕ
memory_size r = size r.p MEMORY_8

-- how many numbers an index register can be
abbrev pub index_size : Regs → ℕ
index_size r = size r.p INDEX_8
