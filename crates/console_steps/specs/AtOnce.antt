-- An access of the processor that ends before anything else happens, and does nothing at the ports.
use Rattle.std.specs.Prelude.{◌≡◌, ℕ, List, []}
use Rattle.snes_defs.specs.declared.ports.Act.TheVariants.{Quiet}
use Rattle.cpu_tables.specs.declared.access.Access.{Access}
use Rattle.cpu65816.specs.Instruction.{CpuState, moved_on}
use Rattle.cpu65816.specs.Stands.{Stands}
use Rattle.cpu65816.specs.declared.processor.Cpu.{Cpu}
use Rattle.dma_hdma.specs.declared.moves.Move.{Move}
use Rattle.beam.specs.declared.events.Event.{Event}
use Rattle.beam.specs.Events.{beam_after, passed}
use Rattle.console_bus.specs.BusState.{BusState}
use Rattle.console_steps.specs.ConsoleState.{access_act, access_clocks, after_access, byte_of, move_act, after_move}
use Rattle.console_steps.specs.ConsoleState.{with_interrupt_levels}

-- the beam has gone on by so many clocks
abbrev pub gone_on : BusState → ℕ → BusState
gone_on r clocks = record r { beam = beam_after r.picture.registers.settings.overscan r.beam clocks }

-- .. in which nothing happened
abbrev pub passed_in : BusState → ℕ → List Event
passed_in r clocks = passed r.picture.registers.settings.overscan r.beam clocks

-- what such an access makes of the processor and the bus: its effect, after which the beam has gone on by its clocks
pub record IsMadeAtOnce (cpu cpu' : Cpu) (bus bus' : BusState) (access : Access) (clocks : ℕ) : Type 0 where
  pub quiet : access_act bus access ≡ Quiet
  pub lasts : clocks ≡ access_clocks access bus.io.fast
  pub nothing : passed_in (after_access bus access 0) clocks ≡ []
  pub rest : bus' ≡ gone_on (after_access bus access 0) clocks
  pub processor : (s : CpuState) → Stands cpu s
      → Stands cpu' (with_interrupt_levels (moved_on s (byte_of bus access 0)) (after_access bus access 0))

-- what a byte of a transfer that is moved so makes of them: its clocks are eight
pub record IsMovedAtOnce (cpu cpu' : Cpu) (bus bus' : BusState) (move : Move) : Type 0 where
  pub quiet : move_act bus move ≡ Quiet
  pub nothing : passed_in (after_move bus move 0) 8 ≡ []
  pub rest : bus' ≡ gone_on (after_move bus move 0) 8
  pub processor : (s : CpuState) → Stands cpu s → Stands cpu' (with_interrupt_levels s (after_move bus move 0))
