-- N and Z of a byte and of a word, loads of A, X and Y, and single flags of PSW (nocash fullsnes, "SNES APU
-- SPC700 CPU Load/Store Commands").
use Rattle.std.specs.Prelude.{ℕ, Bool, ◌/◌, ◌%◌, ◌==◌, if◌then◌else◌}
use Rattle.status_bits.specs.StatusBits.{put}
use Rattle.spc_tables.specs.declared.flags.TheConstants.{ZERO, NEGATIVE}
use Rattle.spc_tables.specs.declared.regs.SpcRegs.{SpcRegs}

-- a flag as a number
abbrev pub bit_of : Bool → ℕ
bit_of on = if on then 1 else 0

-- the top bit of a byte, its sign
abbrev pub sign : ℕ → ℕ
sign v = v / 128 % 2

-- the top bit of a word, its sign
abbrev pub word_sign : ℕ → ℕ
word_sign v = v / 32768 % 2

-- PSW with N and Z from a byte
unfoldable pub with_nz : ℕ → ℕ → ℕ
with_nz v psw = put (put psw ZERO (v == 0)) NEGATIVE (sign v == 1)

-- PSW with N and Z from a word
unfoldable pub with_nz_word : ℕ → ℕ → ℕ
with_nz_word v psw = put (put psw ZERO (v == 0)) NEGATIVE (word_sign v == 1)

-- a byte is loaded into A, X or Y, and sets N and Z

unfoldable pub load_a : SpcRegs → ℕ → SpcRegs
load_a r v = record r { a = v; psw = with_nz v r.psw }

unfoldable pub load_x : SpcRegs → ℕ → SpcRegs
load_x r v = record r { x = v; psw = with_nz v r.psw }

unfoldable pub load_y : SpcRegs → ℕ → SpcRegs
load_y r v = record r { y = v; psw = with_nz v r.psw }

-- a flag on or off
abbrev pub with_flag : SpcRegs → ℕ → Bool → SpcRegs
with_flag r weight on = record r { psw = put r.psw weight on }
