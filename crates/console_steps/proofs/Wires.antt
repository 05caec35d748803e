-- Lines that are given again as they are change nothing.
use Rattle.std.proofs.Common.{◌≡◌, ℕ, Bool, true, false, ◌&&◌, ◌||◌, not, Option, Some, None, refl, sym, ap, subst, ◌∙◌}
use Rattle.cpu_tables.specs.declared.access.Access.{Access}
use Rattle.cpu_tables.specs.declared.regs.Regs.{Regs}
use Rattle.io_math.specs.Registers.{nmi_level, irq_level}
use Rattle.cpu65816.specs.declared.processor.Cpu.{Cpu}
use Rattle.cpu65816.specs.Instruction.{CpuState, moved_by, moved_on, signalled, end_of, left_of}
use Rattle.cpu65816.specs.Stands.{Stands}
use Rattle.console_bus.specs.BusState.{BusState}
use Rattle.console_steps.specs.ConsoleState.{after_access, with_interrupt_levels}
use Rattle.console_steps.specs.AtOnce.{IsMadeAtOnce}
use Rattle.console_steps.specs.Plain.{IsWired}

kept_same : (kept n : Bool) → (kept || (n && not n)) ≡ kept
kept_same true n = refl
kept_same false true = refl
kept_same false false = refl

abbrev with_levels : CpuState → Bool → Bool → Bool → CpuState
with_levels s kept nmi irq = record s { kept = kept; nmi_level = nmi; irq_level = irq }

same_levels : (s : CpuState) (n i : Bool) → s.nmi_level ≡ n → s.irq_level ≡ i → signalled s n i ≡ s
same_levels s n i en ei =
    ap (λ (x : Bool). with_levels s (s.kept || (x && not s.nmi_level)) x i) (sym en)
    ∙ ap (λ (x : Bool). with_levels s (s.kept || (s.nmi_level && not s.nmi_level)) s.nmi_level x) (sym ei)
    ∙ ap (λ (x : Bool). with_levels s x s.nmi_level s.irq_level) (kept_same s.kept s.nmi_level)

-- an access leaves the levels
moved_levels : (r : Option Regs) (byte : ℕ) (s : CpuState) → ((moved_by r byte s).nmi_level ≡ s.nmi_level) × ((moved_by r byte s).irq_level ≡ s.irq_level)
moved_levels None byte s = (refl, refl)
moved_levels (Some r) byte s = (refl, refl)

pub given_again : (cpu cpu' : Cpu) (bus : BusState) (s : CpuState) (byte : ℕ) → IsWired cpu bus → Stands cpu s
    → Stands cpu' (moved_on s byte) → Stands cpu' (with_interrupt_levels (moved_on s byte) bus)
given_again cpu cpu' bus s byte wired h now =
    let kept = moved_levels (end_of s.kept s.irq_level (left_of s)) byte s in
    let same : with_interrupt_levels (moved_on s byte) bus ≡ moved_on s byte =
    same_levels (moved_on s byte) (nmi_level bus.io) (irq_level bus.io) (kept.0 ∙ sym h.nmi_level ∙ wired.nmi) (kept.1 ∙ sym h.irq_level ∙ wired.irq) in
    subst (λ (x : CpuState). Stands cpu' x) (sym same) now

-- after an access that was made at once the processor has the levels of then
pub wired_then : (cpu cpu' : Cpu) (bus bus' : BusState) (a : Access) (clocks : ℕ) (s : CpuState) → IsMadeAtOnce cpu cpu' bus bus' a clocks → Stands cpu s → IsWired cpu' bus'
wired_then cpu cpu' bus bus' a clocks s made h =
    let now = made.processor s h in
    let io : (after_access bus a 0).io ≡ bus'.io = ap (λ (r : BusState). r.io) (sym made.rest) in
    record { nmi = now.nmi_level ∙ ap nmi_level io; irq = now.irq_level ∙ ap irq_level io }
