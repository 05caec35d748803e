-- What operations on single registers do: the status byte and its flags, S, D, the data bank, XBA, XCE
-- (W65C816S data sheet, operations and status register).
use Rattle.std.specs.Prelude.{ℕ, Bool, true, false, ◌+◌, ◌-◌, ◌*◌, ◌/◌, ◌%◌, bit_and, bit_or, if◌then◌else◌}
use Rattle.status_bits.specs.StatusBits.{flag, put}
use Rattle.cpu_tables.specs.declared.operation.Op.{Op}
use Rattle.cpu_tables.specs.declared.operation.Op.TheVariants.{Nmi, Irq}
use Rattle.cpu_tables.specs.declared.regs.Regs.{Regs}
use Rattle.cpu_tables.specs.declared.flags.TheConstants.{CARRY, INDEX_8, MEMORY_8}
use Rattle.cpu_tables.specs.Status.{size}
use Rattle.cpu_alu.specs.Width.{with_nz}

-- A new status byte. In emulation mode both widths stay 8 bits, and 8-bit indexes have no high byte.
unfoldable pub with_status : Regs → ℕ → Regs
with_status r p =
    let q = (if r.e then put (put p MEMORY_8 true) INDEX_8 true else p) in
    record r { p = q; x = r.x % size q INDEX_8; y = r.y % size q INDEX_8 }

-- The status byte as it is pushed. In emulation mode bit 5 is set, and bit 4 tells software, where it is
-- set, from an interrupt of the hardware.
unfoldable pub pushed_status : Op → Regs → ℕ
pushed_status Nmi r = if r.e then put (put r.p MEMORY_8 true) INDEX_8 false else r.p
pushed_status Irq r = if r.e then put (put r.p MEMORY_8 true) INDEX_8 false else r.p
pushed_status _ r = if r.e then put (put r.p MEMORY_8 true) INDEX_8 true else r.p

-- REP and SEP: the flags of a mask off, and on
unfoldable pub clear_flags : Regs → ℕ → Regs
clear_flags r mask = with_status r (r.p - bit_and r.p (mask % 256))

unfoldable pub set_flags : Regs → ℕ → Regs
set_flags r mask = with_status r (bit_or r.p (mask % 256))

-- a flag on or off
abbrev pub with_flag : Regs → ℕ → Bool → Regs
with_flag r weight on = record r { p = put r.p weight on }

-- XCE: carry and emulation mode change places; into emulation mode the stack goes to page 1
unfoldable pub exchange_modes : Regs → Regs
exchange_modes r =
    let into = flag r.p CARRY in
    with_status (record r { e = into; s = if into then 256 + r.s % 256 else r.s }) (put r.p CARRY r.e)

-- A, X or Y into S: in emulation mode its low byte alone
unfoldable pub set_stack : Regs → ℕ → Regs
set_stack r v = record r { s = if r.e then r.s / 256 * 256 + v % 256 else v }

-- all 16 bits of A, with N and Z
unfoldable pub load_a_wide : Regs → ℕ → Regs
load_a_wide r v = record r { a = v; p = with_nz 65536 v r.p }

-- D, with N and Z
unfoldable pub load_d : Regs → ℕ → Regs
load_d r v = record r { d = v; p = with_nz 65536 v r.p }

-- the data bank, with N and Z
unfoldable pub load_bank : Regs → ℕ → Regs
load_bank r v = record r { dbr = v % 256; p = with_nz 256 (v % 256) r.p }

-- XBA: the bytes of A change places, with N and Z of the new low byte
unfoldable pub swap_bytes : Regs → Regs
swap_bytes r = record r { a = r.a % 256 * 256 + r.a / 256; p = with_nz 256 (r.a / 256) r.p }
