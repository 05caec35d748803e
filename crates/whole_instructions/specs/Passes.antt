-- Accesses of the processor that follow one another in an instruction, told without a processor of the code. They are
-- told by what the instruction has still to do, and by what that becomes.
use Rattle.std.specs.Prelude.{◌≡◌, ℕ, zero, suc, ◌+◌, ◌-◌, ◌≤◌, false, []}
use Rattle.snes_defs.specs.declared.ports.Act.TheVariants.{Quiet}
use Rattle.cpu_tables.specs.declared.regs.Regs.{Regs}
use Rattle.cpu_modes.specs.Plan.{Plan}
use Rattle.cpu65816.specs.Instruction.{left_of}
use Rattle.io_math.specs.Registers.{nmi_level, irq_level}
use Rattle.beam.specs.Places.{clocks_left}
use Rattle.console_bus.specs.BusState.{BusState}
use Rattle.console_steps.specs.ConsoleState.{ConsoleState, act_of, due_of, console_after, bytes_after}
use Rattle.console_steps.specs.Plain.{IsCalm}

-- so many steps that touch no port and emit nothing lead from a console state to another
abbrev pub QuietSteps : ℕ → ConsoleState → ConsoleState → Type 0
QuietSteps zero w to = w ≡ to
QuietSteps (suc n) w to = (act_of w.rest (due_of w) ≡ Quiet) × (bytes_after w (due_of w) 0 ≡ [])
    × QuietSteps n (console_after w (due_of w) 0) to

-- a console state with this bus, whose processor has this plan left of the instruction that began with the registers
-- `begun`; the lines have been given, and bring no interrupt
pub record HasLeft (begun : Regs) (plan : Plan) (bus : BusState) (w : ConsoleState) : Type 0 where
  pub left : left_of w.processor ≡ plan
  pub start : w.processor.start ≡ begun
  pub kept : w.processor.kept ≡ false
  pub irq : w.processor.irq_level ≡ false
  pub nmi_given : w.processor.nmi_level ≡ nmi_level bus.io
  pub irq_given : w.processor.irq_level ≡ irq_level bus.io
  pub rest : bus ≡ w.rest

-- from a console state such steps lead, in so many clocks, to one that has this left
pub record LeadsTo (begun : Regs) (plan : Plan) (bus : BusState) (w : ConsoleState) (clocks : ℕ) : Type 0 where
  pub steps : ℕ
  pub to : ConsoleState
  pub run : QuietSteps steps w to
  pub at : HasLeft begun plan bus to
  pub clock : to.clock ≡ w.clock + clocks

-- what is left of an instruction becomes this, and the bus this other one: each access is made plainly, before the next
-- place of the beam
pub record Passes (begun begun' : Regs) (plan plan' : Plan) (bus bus' : BusState) : Type 0 where
  pub left : clocks_left bus'.beam ≤ clocks_left bus.beam
  pub calm : IsCalm bus → IsCalm bus'
  pub io : bus'.io ≡ bus.io
  pub come : (w : ConsoleState) → HasLeft begun plan bus w → IsCalm bus
      → LeadsTo begun' plan' bus' w (clocks_left bus.beam - clocks_left bus'.beam)
