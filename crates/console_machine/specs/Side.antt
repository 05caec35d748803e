-- When the code's console is a console state, and of which console states the laws of a machine speak.
use Rattle.std.specs.Prelude.{◌≡◌, ℕ, ◌*◌, ◌<◌, List}
use Rattle.snes_defs.specs.declared.region.Region.{Region}
use Rattle.snes_defs.specs.declared.ports.Side.TheVariants.{Console}
use Rattle.clock_ratio.specs.Stamp.{rate_of}
use Rattle.cpu65816.specs.declared.processor.Cpu.{Cpu}
use Rattle.console_bus.specs.BusState.{BusState}
use Rattle.console_steps.specs.ConsoleState.{ConsoleState, region_of}
use Rattle.console_steps.specs.Stands.{IsAt}

-- the console states of a region: their beam stands on a line
pub record IsConsoleOf (own : Region) (w : ConsoleState) : Type 0 where
  pub region : region_of w ≡ own
  pub line : w.rest.beam.h < 1364

-- what contracts see of a console side: the processor, all else, its region and stamp, and the bytes that wait
pub record ConsoleValue : Type 0 where
  pub cpu : Cpu
  pub rest : BusState
  pub region : Region
  pub stamp : ℕ
  pub waiting : List ℕ

-- the value is a console in this console state
pub record StandsAt (v : ConsoleValue) (w : ConsoleState) : Type 0 where
  pub at : IsAt v.cpu v.rest w
  pub stamp : v.stamp ≡ rate_of v.region Console * w.clock
  pub console : IsConsoleOf v.region w

-- the value is a console in some console state
abbrev pub IsSome : ConsoleValue → Type 0
IsSome v = ∥ ((w : ConsoleState) × StandsAt v w) ∥₁
