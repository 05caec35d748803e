-- Where the program goes on: branches, jumps, RTI, interrupts, the reset, block moves (W65C816S data sheet,
-- operations and status register).
use Rattle.std.specs.Prelude.{ℕ, Bool, true, false, not, ◌+◌, ◌%◌, ◌==◌, nat_lt, if◌then◌else◌}
use Rattle.status_bits.specs.StatusBits.{flag, put}
use Rattle.cpu_tables.specs.declared.operation.Op.{Op}
use Rattle.cpu_tables.specs.declared.operation.Op.TheVariants.{Bcc, Bcs, Beq, Bmi, Bne, Bpl, Bra, Brl, Bvc, Bvs}
use Rattle.cpu_tables.specs.declared.regs.Regs.{Regs}
use Rattle.cpu_tables.specs.declared.flags.TheConstants.{CARRY, ZERO, IRQ_DISABLE, DECIMAL, OVERFLOW, NEGATIVE}
use Rattle.cpu_tables.specs.Status.{index_size}
use Rattle.cpu_alu.specs.Registers.{with_status}

-- whether a branch is taken, by the status byte
unfoldable pub taken : Op → ℕ → Bool
taken Bpl p = not (flag p NEGATIVE)
taken Bmi p = flag p NEGATIVE
taken Bvc p = not (flag p OVERFLOW)
taken Bvs p = flag p OVERFLOW
taken Bcc p = not (flag p CARRY)
taken Bcs p = flag p CARRY
taken Bne p = not (flag p ZERO)
taken Beq p = flag p ZERO
taken Bra p = true
taken Brl p = true
taken _ p = false

-- a place at a signed byte's distance, in the bank
unfoldable pub relative : ℕ → ℕ → ℕ
relative pc byte = (pc + byte + (if nat_lt byte 128 then 0 else 65280)) % 65536

-- the program goes on elsewhere in its bank
abbrev pub jump : Regs → ℕ → Regs
jump r target = record r { pc = target }

-- a branch by a byte
abbrev pub branch : Op → Regs → ℕ → Regs
branch op r word = if taken op r.p then jump r (relative r.pc (word % 256)) else r

-- BRL and PER: a place at a distance of two bytes
abbrev pub far_relative : ℕ → ℕ → ℕ
far_relative pc word = (pc + word) % 65536

-- RTI: the pulled status, which stands in P, and the pulled place
unfoldable pub return_from_interrupt : Regs → ℕ → Regs
return_from_interrupt r target = jump (with_status r r.p) target

-- BRK, COP and the interrupts: at the vector, in bank 0, with interrupts and decimal off
unfoldable pub interrupt : Regs → ℕ → Regs
interrupt r target = record r { pc = target; pbr = 0; p = put (put r.p IRQ_DISABLE true) DECIMAL false }

-- the registers after a reset, at its vector
unfoldable pub reset : ℕ → Regs
reset target =
    record { a = 0; x = 0; y = 0; s = 0x01FF; d = 0; pc = target; pbr = 0; dbr = 0; p = 0x34; e = true }

-- MVN and MVP: the indexes move by the step, A counts down in 16 bits, and the instruction, which has three
-- bytes, comes again until A has passed 0
unfoldable pub moved_block : ℕ → Regs → Regs
moved_block step r =
    let left = (r.a + 65535) % 65536 in
    record r {
      a = left;
      x = (r.x + step) % index_size r;
      y = (r.y + step) % index_size r;
      pc = if left == 65535 then r.pc else (r.pc + 65533) % 65536;
    }
