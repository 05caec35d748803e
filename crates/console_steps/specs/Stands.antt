-- When the processor and the bus of the code are those of a console state.
use Rattle.std.specs.Prelude.{◌≡◌}
use Rattle.cpu65816.specs.declared.processor.Cpu.{Cpu}
use Rattle.cpu65816.specs.Stands.{Stands}
use Rattle.console_bus.specs.BusState.{BusState}
use Rattle.console_steps.specs.ConsoleState.{ConsoleState}

pub record IsAt (cpu : Cpu) (bus : BusState) (w : ConsoleState) : Type 0 where
  pub processor : Stands cpu w.processor
  pub rest : bus ≡ w.rest
