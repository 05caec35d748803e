use Rattle.std.proofs.Common.{◌≡◌, ℕ, ◌+◌, ◌%◌, Some, refl, ap, ◌∙◌}
use Rattle.cpu_tables.specs.Opcodes.{row_of, first_entry, matrix, others}
use Rattle.cpu_tables.specs.declared.mode.Mode.TheVariants.{Absolute, Stack, Long}
use Rattle.cpu_tables.specs.declared.opcode.Row.{Row}
use Rattle.cpu_tables.specs.declared.operation.Op.TheVariants.{Jsr, Rts, Jsl, Rtl, Rti, Nmi, Irq}
use Rattle.cpu_tables.specs.declared.regs.Regs.{Regs}
use Rattle.cpu_alu.specs.Flow.{interrupt, return_from_interrupt}
use Rattle.cpu_alu.specs.Results.{registers_after}
use Rattle.cpu_modes.specs.Addresses.{code, fetched}
use Rattle.cpu_modes.specs.Orders.{instruction, order, order_of_opcode}
use Rattle.cpu_modes.specs.Uses.{use_of}
use Rattle.cpu_modes.specs.declared.uses.Cause.{Cause}
use Rattle.cpu_modes.specs.declared.uses.Use.{Use}
use Rattle.processor_laws.specs.Outcomes.{Memory, outcome}

abbrev pub jsr : Row
jsr = record { op = Jsr; mode = Absolute }

abbrev pub rts : Row
rts = record { op = Rts; mode = Stack }

abbrev pub jsl : Row
jsl = record { op = Jsl; mode = Long }

abbrev pub rtl : Row
rtl = record { op = Rtl; mode = Stack }

abbrev pub rti : Row
rti = record { op = Rti; mode = Stack }

abbrev pub nmi : Row
nmi = record { op = Nmi; mode = Stack }

abbrev pub irq : Row
irq = record { op = Irq; mode = Stack }

-- the rows of the opcodes of the laws
pub row_of-20 : row_of 0x20 ≡ Some jsr
unfolding row_of first_entry matrix others
row_of-20 = refl

pub row_of-60 : row_of 0x60 ≡ Some rts
unfolding row_of first_entry matrix others
row_of-60 = refl

pub row_of-22 : row_of 0x22 ≡ Some jsl
unfolding row_of first_entry matrix others
row_of-22 = refl

pub row_of-6B : row_of 0x6B ≡ Some rtl
unfolding row_of first_entry matrix others
row_of-6B = refl

pub row_of-40 : row_of 0x40 ≡ Some rti
unfolding row_of first_entry matrix others
row_of-40 = refl

pub use_of-jsl : use_of Jsl ≡ Use.CallLong
unfolding use_of
use_of-jsl = refl

pub use_of-rtl : use_of Rtl ≡ Use.ReturnLong
unfolding use_of
use_of-rtl = refl

pub use_of-rti : use_of Rti ≡ Use.ReturnInterrupt
unfolding use_of
use_of-rti = refl

pub registers_after-jsl : (r : Regs) (word : ℕ) → registers_after Jsl Long r word ≡ record r { pc = word }
unfolding registers_after
registers_after-jsl r word = refl

pub registers_after-rtl : (r : Regs) (word : ℕ) → registers_after Rtl Stack r word ≡ record r { pc = (word + 1) % 65536 }
unfolding registers_after
registers_after-rtl r word = refl

pub registers_after-rti : (r : Regs) (word : ℕ) → registers_after Rti Stack r word ≡ return_from_interrupt r word
unfolding registers_after
registers_after-rti r word = refl

pub use_of-nmi : use_of Nmi ≡ Use.Hardware Cause.Nmi
unfolding use_of
use_of-nmi = refl

pub use_of-irq : use_of Irq ≡ Use.Hardware Cause.Irq
unfolding use_of
use_of-irq = refl

pub registers_after-nmi : (r : Regs) (word : ℕ) → registers_after Nmi Stack r word ≡ interrupt r word
unfolding registers_after
registers_after-nmi r word = refl

pub registers_after-irq : (r : Regs) (word : ℕ) → registers_after Irq Stack r word ≡ interrupt r word
unfolding registers_after
registers_after-irq r word = refl

pub use_of-jsr : use_of Jsr ≡ Use.Call
unfolding use_of
use_of-jsr = refl

pub use_of-rts : use_of Rts ≡ Use.Return
unfolding use_of
use_of-rts = refl

pub registers_after-jsr : (r : Regs) (word : ℕ) → registers_after Jsr Absolute r word ≡ record r { pc = word }
unfolding registers_after
registers_after-jsr r word = refl

pub registers_after-rts : (r : Regs) (word : ℕ) → registers_after Rts Stack r word ≡ record r { pc = (word + 1) % 65536 }
unfolding registers_after
registers_after-rts r word = refl

-- an instruction whose opcode is known
pub outcome-opcode : (r : Regs) (m : Memory) (op : ℕ) (row : Row) → m (code r) ≡ op → row_of op ≡ Some row → outcome (instruction r) m ≡ outcome (order row (fetched r)) m
outcome-opcode r m op row h e = ap (λ o. outcome (order_of_opcode (row_of o) (fetched r)) m) h ∙ ap (λ q. outcome (order_of_opcode q (fetched r)) m) e
