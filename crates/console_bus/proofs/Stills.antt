-- Reads of 4210 and 4211 whose flag is clear change nothing, and give the same byte wherever the beam stands.
use Rattle.std.proofs.Common.{◌≡◌, Bool, false, refl, sym, ap}
use Rattle.io_math.specs.declared.registers.IoRegisters.{IoRegisters}
use Rattle.io_math.specs.Registers.{after_read, byte_read}
use Rattle.console_bus.specs.BusState.{BusState}
use Rattle.console_bus.specs.Places.{chip_byte, chip_read, IsStill}

nmi_stays : (io : IoRegisters) → io.interrupts.nmi_flag ≡ false → after_read io 0x4210 ≡ io
unfolding after_read
nmi_stays io h = ap (λ (flag : Bool). record io { interrupts = record io.interrupts { nmi_flag = flag } }) (sym h)

irq_stays : (io : IoRegisters) → io.interrupts.irq_flag ≡ false → after_read io 0x4211 ≡ io
unfolding after_read
irq_stays io h = ap (λ (flag : Bool). record io { interrupts = record io.interrupts { irq_flag = flag } }) (sym h)

pub still_nmi : (r : BusState) → r.io.interrupts.nmi_flag ≡ false → IsStill r 0x4210
unfolding chip_read chip_byte byte_read
still_nmi r h = record { same = λ b. ap (λ io. record r { beam = b; io = io }) (nmi_stays r.io h); byte = λ b. refl }

pub still_irq : (r : BusState) → r.io.interrupts.irq_flag ≡ false → IsStill r 0x4211
unfolding chip_read chip_byte byte_read
still_irq r h = record { same = λ b. ap (λ io. record r { beam = b; io = io }) (irq_stays r.io h); byte = λ b. refl }
