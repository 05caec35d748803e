-- An access of a port by the processor, in whose clocks nothing else happens.
use Rattle.std.specs.Prelude.{◌≡◌, ℕ, []}
use Rattle.cpu_tables.specs.declared.access.Access.{Access}
use Rattle.cpu65816.specs.declared.processor.Cpu.{Cpu}
use Rattle.cpu65816.specs.Instruction.{CpuState, moved_on}
use Rattle.cpu65816.specs.Stands.{Stands}
use Rattle.console_bus.specs.BusState.{BusState}
use Rattle.console_steps.specs.ConsoleState.{access_clocks, after_access, byte_of, with_interrupt_levels}
use Rattle.console_steps.specs.AtOnce.{gone_on, passed_in}

-- what it makes of the processor and the bus, where the port offers this byte: its effect, after which the beam has
-- gone on by its six clocks
pub record IsPortMade (cpu cpu' : Cpu) (bus bus' : BusState) (access : Access) (got : ℕ) : Type 0 where
  pub lasts : access_clocks access bus.io.fast ≡ 6
  pub nothing : passed_in (after_access bus access got) 6 ≡ []
  pub rest : bus' ≡ gone_on (after_access bus access got) 6
  pub processor : (s : CpuState) → Stands cpu s
      → Stands cpu' (with_interrupt_levels (moved_on s (byte_of bus access got)) (after_access bus access got))
