-- Where the accesses of an instruction go, and where an address wraps (nocash fullsnes, "SNES APU SPC700 CPU
-- Overview").
use Rattle.std.specs.Prelude.{ℕ, ◌+◌, ◌*◌, ◌/◌, ◌%◌, if◌then◌else◌}
use Rattle.status_bits.specs.StatusBits.{flag}
use Rattle.spc_tables.specs.declared.flags.TheConstants.{DIRECT_PAGE}
use Rattle.spc_tables.specs.declared.regs.SpcRegs.{SpcRegs}

-- a word of two bytes
abbrev pub join : ℕ → ℕ → ℕ
join low high = low + 256 * high

-- after a fetch the program counter has grown by 1
abbrev pub fetched : SpcRegs → SpcRegs
fetched r = record r { pc = (r.pc + 1) % 65536 }

-- the place at an offset in the direct page, which is page 1 where P is set and else page 0; the offset wraps in the page
abbrev pub direct : SpcRegs → ℕ → ℕ
direct r offset = (if flag r.psw DIRECT_PAGE then 256 else 0) + offset % 256

-- the next place in the page, where a word or a pointer of the direct page has its high byte
abbrev pub next_in_page : ℕ → ℕ
next_in_page at = at / 256 * 256 + (at + 1) % 256

-- the next place in memory
abbrev pub next_place : ℕ → ℕ
next_place at = (at + 1) % 65536

-- a place with an index added
abbrev pub indexed : ℕ → ℕ → ℕ
indexed at index = (at + index) % 65536

-- where the stack pointer points: always into page 1
abbrev pub stack : SpcRegs → ℕ
stack r = 256 + r.sp

-- the registers after a push
abbrev pub pushed : SpcRegs → SpcRegs
pushed r = record r { sp = (r.sp + 255) % 256 }

-- the registers with the stack pointer at the byte that a pull reads
abbrev pub pulled : SpcRegs → SpcRegs
pulled r = record r { sp = (r.sp + 1) % 256 }
