-- Steps of the console that touch no port and emit nothing.
use Rattle.std.specs.Prelude.{◌≡◌, ℕ, []}
use Rattle.snes_defs.specs.declared.ports.Act.TheVariants.{Quiet}
use Rattle.cpu65816.specs.declared.processor.Cpu.{Cpu}
use Rattle.side_law.proofs.SilentSteps.{SilentSteps}
use Rattle.console_bus.specs.BusState.{BusState}
use Rattle.console_steps.specs.ConsoleState.{ConsoleState, Due, act_of, due_of, due_clocks, console_after, bytes_after}
use Rattle.console_steps.specs.ConsoleState.{console_moves}
use Rattle.console_steps.specs.Stands.{IsAt}
use Rattle.console_machine.specs.Side.{ConsoleValue, StandsAt}

-- a step that is due is such a step, lasts so many clocks, and led to this processor and this bus
pub record IsStepMade (cpu : Cpu) (bus : BusState) (w : ConsoleState) (due : Due) (clocks : ℕ) : Type 0 where
  pub quiet : act_of w.rest due ≡ Quiet
  pub at : IsAt cpu bus (console_after w due 0)
  pub none : bytes_after w due 0 ≡ []
  pub lasts : clocks ≡ due_clocks due w.rest.io.fast

-- the next step is one, and led to this value
pub record IsSilentStep (new : ConsoleValue) (w : ConsoleState) : Type 0 where
  pub quiet : act_of w.rest (due_of w) ≡ Quiet
  pub none : bytes_after w (due_of w) 0 ≡ []
  pub now_stands : StandsAt new (console_after w (due_of w) 0)

-- some of them, each begun before a stamp, led to this value
pub record IsSilent (until : ℕ) (new : ConsoleValue) (w : ConsoleState) : Type 0 where
  pub steps : ℕ
  pub to : ConsoleState
  pub now_stands : StandsAt new to
  pub silent : SilentSteps console_moves until steps w to
