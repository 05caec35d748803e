-- A, X and Y at their widths of 8 or 16 bits, and N and Z of a value (W65C816S data sheet, status register).
use Rattle.std.specs.Prelude.{ℕ, Bool, ◌+◌, ◌*◌, ◌/◌, ◌%◌, ◌==◌, if◌then◌else◌}
use Rattle.status_bits.specs.StatusBits.{put}
use Rattle.cpu_tables.specs.declared.regs.Regs.{Regs}
use Rattle.cpu_tables.specs.declared.flags.TheConstants.{ZERO, NEGATIVE}
use Rattle.cpu_tables.specs.Status.{size, memory_size, index_size}

-- In all of these `size` is how many numbers there are at a width: 256 at 8 bits, 65536 at 16.

-- a flag as a number
abbrev pub bit_of : Bool → ℕ
bit_of on = if on then 1 else 0

-- the top bit of a number
abbrev pub top_bit : ℕ → ℕ → ℕ
top_bit size v = v / (size / 2) % 2

-- the bit below the top bit
abbrev pub next_bit : ℕ → ℕ → ℕ
next_bit size v = v / (size / 4) % 2

-- the status byte with N and Z from a result
unfoldable pub with_nz : ℕ → ℕ → ℕ → ℕ
with_nz size v p = put (put p ZERO (v == 0)) NEGATIVE (top_bit size v == 1)

-- A at its width
abbrev pub accumulator : Regs → ℕ
accumulator r = r.a % memory_size r

-- A with a new value at its width: at 8 bits the high byte stays
unfoldable pub put_a : Regs → ℕ → ℕ
put_a r v = r.a / memory_size r * memory_size r + v % memory_size r

-- a value is loaded into A, X or Y, at its width, and sets N and Z

unfoldable pub load_a : Regs → ℕ → Regs
load_a r v = record r { a = put_a r v; p = with_nz (memory_size r) (v % memory_size r) r.p }

unfoldable pub load_x : Regs → ℕ → Regs
load_x r v = record r { x = v % index_size r; p = with_nz (index_size r) (v % index_size r) r.p }

unfoldable pub load_y : Regs → ℕ → Regs
load_y r v = record r { y = v % index_size r; p = with_nz (index_size r) (v % index_size r) r.p }
