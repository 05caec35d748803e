-- Which branches are taken and where they go, jumps, and what BRK makes of PSW (nocash fullsnes, "SNES APU
-- SPC700 CPU Jump/Control Commands").
use Rattle.std.specs.Prelude.{ℕ, Bool, true, false, not, ◌+◌, ◌%◌, ◌==◌, nat_lt, if◌then◌else◌}
use Rattle.status_bits.specs.StatusBits.{flag, put}
use Rattle.spc_tables.specs.declared.flags.TheConstants.{BREAK, CARRY, INTERRUPT_ENABLE, NEGATIVE, OVERFLOW, ZERO}
use Rattle.spc_tables.specs.declared.mode.SpcMode.{SpcMode}
use Rattle.spc_tables.specs.declared.operation.SpcOp.{SpcOp}
use Rattle.spc_tables.specs.declared.operation.SpcOp.TheVariants.{Bpl, Bmi, Bvc, Bvs, Bcc, Bcs, Bne, Beq, Bra, Bbs, Bbc, Cbne, Dbnz}
use Rattle.spc_tables.specs.declared.regs.SpcRegs.{SpcRegs}
use Rattle.spc_alu.specs.Bits.{bit_number, is_bit}

-- whether a branch is taken, by PSW
unfoldable pub taken : SpcOp → ℕ → Bool
taken Bpl psw = not (flag psw NEGATIVE)
taken Bmi psw = flag psw NEGATIVE
taken Bvc psw = not (flag psw OVERFLOW)
taken Bvs psw = flag psw OVERFLOW
taken Bcc psw = not (flag psw CARRY)
taken Bcs psw = flag psw CARRY
taken Bne psw = not (flag psw ZERO)
taken Beq psw = flag psw ZERO
taken Bra psw = true
taken _ psw = false

-- one less, modulo 256: DBNZ
abbrev pub counted : ℕ → ℕ
counted m = (m + 255) % 256

-- whether a branch is taken, by A and a byte of memory
unfoldable pub taken_by : SpcOp → SpcMode → ℕ → ℕ → Bool
taken_by Bbs mode a m = is_bit m (bit_number mode)
taken_by Bbc mode a m = not (is_bit m (bit_number mode))
taken_by Cbne mode a m = not (m == a)
taken_by Dbnz mode a m = not (counted m == 0)
taken_by _ mode a m = false

-- a place at a signed byte's distance
unfoldable pub relative : ℕ → ℕ → ℕ
relative pc byte = (pc + byte + (if nat_lt byte 128 then 0 else 65280)) % 65536

-- the program goes on elsewhere
abbrev pub jump : SpcRegs → ℕ → SpcRegs
jump r target = record r { pc = target }

-- BRK: B is set, and I cleared
unfoldable pub with_break : SpcRegs → SpcRegs
with_break r = record r { psw = put (put r.psw BREAK true) INTERRUPT_ENABLE false }
