-- Accesses of the processor that follow one another before the next place of the beam, told by the clocks that are left
-- to it.
use Rattle.std.specs.Prelude.{ℕ, ◌-◌, ◌<◌, ◌≤◌}
use Rattle.cpu65816.specs.declared.processor.Cpu.{Cpu}
use Rattle.beam.specs.Places.{clocks_left}
use Rattle.console_bus.specs.BusState.{BusState}
use Rattle.console_steps.specs.ConsoleState.{ConsoleState}
use Rattle.console_steps.specs.Stands.{IsAt}
use Rattle.console_steps.specs.Plain.{IsWired, IsCalm}
use Rattle.console_machine.specs.Runs.{HasRun}

-- a run that leads to processor and bus, of which the processor was given the levels that its lines have
pub record HasCome (cpu : Cpu) (bus : BusState) (w : ConsoleState) (clocks : ℕ) : Type 0 where
  pub run : HasRun cpu bus w clocks
  pub wired : IsWired cpu bus

-- from processor and bus, where nothing else is due, accesses led to these
pub record Follows (cpu cpu' : Cpu) (bus bus' : BusState) : Type 0 where
  pub left : clocks_left bus'.beam ≤ clocks_left bus.beam
  pub calm : IsCalm bus → IsCalm bus'
  pub come : (w : ConsoleState) → IsAt cpu bus w → w.rest.beam.h < 1364 → IsCalm bus → IsWired cpu bus
      → HasCome cpu' bus' w (clocks_left bus.beam - clocks_left bus'.beam)
