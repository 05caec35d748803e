-- Where the accesses of an instruction go, and where an address wraps (W65C816S data sheet, addressing
-- modes). That in emulation mode each push and pull stays in page 1, and that [d] and PEI never wrap in the
-- page, is this project's own profile.
use Rattle.std.specs.Prelude.{ℕ, Bool, true, false, ◌+◌, ◌*◌, ◌/◌, ◌%◌, ◌==◌, ◌&&◌, ◌||◌, not, if◌then◌else◌}
use Rattle.status_bits.specs.StatusBits.{flag}
use Rattle.cpu_tables.specs.declared.flags.TheConstants.{INDEX_8, MEMORY_8}
use Rattle.cpu_tables.specs.declared.regs.Regs.{Regs}
use Rattle.cpu_modes.specs.declared.place.Traffic.{Traffic}
use Rattle.cpu_modes.specs.declared.place.Direction.{Direction}
use Rattle.cpu_modes.specs.declared.place.Direction.TheVariants.{Load, Store, Change}
use Rattle.cpu_modes.specs.declared.place.Reach.{Reach}
use Rattle.cpu_modes.specs.declared.place.Reach.TheVariants.{NextAddress, NextInBankZero}
use Rattle.cpu_modes.specs.declared.uses.Width.{Width}

-- a word of two bytes
abbrev pub join : ℕ → ℕ → ℕ
join low high = low % 256 + 256 * high

-- an address of 24 bits: a bank, and a place in it
abbrev pub in_bank : ℕ → ℕ → ℕ
in_bank bank place = 65536 * bank + place

-- the next address in the same bank
abbrev pub next_in_bank : ℕ → ℕ
next_in_bank at = at / 65536 * 65536 + (at + 1) % 65536

-- an address with an index added, over all 24 bits
abbrev pub indexed : ℕ → ℕ → ℕ
indexed at index = (at + index) % 16777216

-- where the next byte of the program is
abbrev pub code : Regs → ℕ
code r = in_bank r.pbr r.pc

-- after a fetch the program counter has grown by 1, inside its bank
abbrev pub fetched : Regs → Regs
fetched r = record r { pc = (r.pc + 1) % 65536 }

-- in emulation mode, with the direct register at the start of a page, the direct page is that one page
abbrev pub is_one_page : Regs → Bool
is_one_page r = r.e && (r.d % 256 == 0)

-- the place in bank 0 at an offset and an index from the direct register
abbrev pub direct : Regs → ℕ → ℕ → ℕ
direct r offset index = if is_one_page r then r.d + (offset + index) % 256 else (r.d + offset + index) % 65536

-- the place in bank 0 at an offset from the direct register, whatever the mode
abbrev pub direct_always : Regs → ℕ → ℕ
direct_always r offset = (r.d + offset) % 65536

-- the place after that, where a pointer of the direct page has its second byte
abbrev pub direct_next : Regs → ℕ → ℕ
direct_next r at = if is_one_page r then at / 256 * 256 + (at + 1) % 256 else (at + 1) % 65536

-- where the high byte of data is
abbrev pub second : Reach → ℕ → ℕ
second NextAddress at = (at + 1) % 16777216
second NextInBankZero at = (at + 1) % 65536

-- where the stack pointer points: in emulation mode always into page 1
abbrev pub stack : Regs → ℕ
stack r = if r.e then 256 + r.s % 256 else r.s

-- the registers after a push
abbrev pub pushed : Regs → Regs
pushed r = record r { s = if r.e then 256 + (r.s + 255) % 256 else (r.s + 65535) % 65536 }

-- the registers with the stack pointer at the byte that a pull reads
abbrev pub pulled : Regs → Regs
pulled r = record r { s = if r.e then 256 + (r.s + 1) % 256 else (r.s + 1) % 65536 }

-- whether data of this width has 16 bits
abbrev pub is_wide : Width → Regs → Bool
is_wide Width.Memory r = not (flag r.p MEMORY_8)
is_wide Width.Index r = not (flag r.p INDEX_8)
is_wide Width.Byte r = false
is_wide Width.Word r = true

abbrev pub is_written : Direction → Bool
is_written Load = false
is_written Store = true
is_written Change = true

-- the cycle of an indexed address: where the index has 16 bits, the sum leaves the page, or the data is written
abbrev pub has_index_cycle : Traffic → Regs → ℕ → ℕ → Bool
has_index_cycle data' r at index = not (flag r.p INDEX_8) || not (at / 256 == (at + index) / 256) || is_written data'.direction
