-- Whole instructions one after another, told of the processor of the code.
use Rattle.std.specs.Prelude.{◌≡◌, false, ℕ, ◌+◌, ◌-◌, ◌≤◌}
use Rattle.cpu_tables.specs.declared.regs.Regs.{Regs}
use Rattle.cpu_modes.specs.Plan.{ends}
use Rattle.cpu_modes.specs.Remaining.{remaining, Keeps}
use Rattle.cpu_modes.specs.declared.micro.Micro.{Micro}
use Rattle.cpu65816.specs.declared.processor.Cpu.{Cpu}
use Rattle.beam.specs.Places.{clocks_left}
use Rattle.console_bus.specs.BusState.{BusState}
use Rattle.console_steps.specs.ConsoleState.{ConsoleState}
use Rattle.console_steps.specs.Stands.{IsAt}
use Rattle.console_steps.specs.Plain.{IsWired, IsCalm}
use Rattle.whole_instructions.specs.Passes.{Passes, QuietSteps}

-- from the end of one instruction, some whole ones lead to the end of another
pub record EndsAfter (begun r r' : Regs) (bus bus' : BusState) : Type 0 where
  pub last : Regs
  pub passes : Passes begun last (ends r) (ends r') bus bus'

abbrev pub IsRun : Regs → Regs → BusState → BusState → Type 0
IsRun r r' bus bus' = (begun : Regs) → EndsAfter begun r r' bus bus'

-- the accesses of an instruction before its data have been made: what is left of it is what this micro-state leaves
pub record StandsBefore (r : Regs) (micro : Micro) (bus bus' : BusState) : Type 0 where
  pub passes : (begun : Regs) → Passes begun r (ends r) (remaining micro) bus bus'
  pub start : micro.start ≡ r
  pub keeps : Keeps false micro

-- from a console state quiet steps lead, in so many clocks, to one at which processor and bus are
pub record ComesTo (cpu : Cpu) (bus : BusState) (w : ConsoleState) (clocks : ℕ) : Type 0 where
  pub steps : ℕ
  pub to : ConsoleState
  pub run : QuietSteps steps w to
  pub at : IsAt cpu bus to
  pub wired : IsWired cpu bus
  pub clock : to.clock ≡ w.clock + clocks

-- processor and bus go on by such steps, all before the beam's next place
pub record GoesWhole (cpu cpu' : Cpu) (bus bus' : BusState) : Type 0 where
  pub left : clocks_left bus'.beam ≤ clocks_left bus.beam
  pub calm : IsCalm bus → IsCalm bus'
  pub come : (w : ConsoleState) → IsAt cpu bus w → IsCalm bus → IsWired cpu bus
      → ComesTo cpu' bus' w (clocks_left bus.beam - clocks_left bus'.beam)
