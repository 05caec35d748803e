-- Accesses of the B bus over the ports behind the console, and runs of accesses up to the beam's next place.
use Rattle.std.specs.Prelude.{◌≡◌, ℕ, ◌+◌, ◌-◌, ◌*◌, ◌<◌, ◌≤◌, List}
use Rattle.snes_defs.specs.declared.region.Region.{Region}
use Rattle.snes_defs.specs.declared.ports.Side.TheVariants.{Console}
use Rattle.clock_ratio.specs.Stamp.{rate_of}
use Rattle.side_law.specs.declared.ports.Stop.TheVariants.{Refused}
use Rattle.side_law.specs.Gone.{Calls, IsAnswered, IsOnWay, HasGone}
use Rattle.cpu_tables.specs.declared.access.Access.{Access}
use Rattle.cpu65816.specs.declared.processor.Cpu.{Cpu}
use Rattle.beam.specs.Places.{clocks_left}
use Rattle.console_bus.specs.BusState.{BusState}
use Rattle.console_steps.specs.ConsoleState.{ConsoleState, access_act, console_moves}
use Rattle.console_steps.specs.Stands.{IsAt}
use Rattle.console_steps.specs.Plain.{IsWired, IsCalm}
use Rattle.console_machine.specs.Ports.{IsPortMade}
use Rattle.console_machine.specs.Side.{IsConsoleOf}

-- an access at a stamp, over ports in a state: what it got, and what it made of the processor, the bus and the ports
pub record HasMade {Ports : Type 0} (calls : Calls Ports) (at : ℕ) (access : Access) (cpu cpu' : Cpu)
    (bus bus' : BusState) (stand : Ports → Type 0) (p : Ports) : Type 0 where
  pub got : ℕ
  pub small : got < 256
  pub ports : Ports
  pub ports_stand : stand ports
  pub answered : IsAnswered calls at (access_act bus access) got p ports
  pub made : IsPortMade cpu cpu' bus bus' access got

-- the same without the ports: it got some byte
abbrev pub IsMade : Cpu → Cpu → BusState → BusState → Access → Type 0
IsMade cpu cpu' bus bus' access = (got : ℕ) × IsPortMade cpu cpu' bus bus' access got

-- the six clocks of an access of the B bus have passed, and no transfer has begun
pub record HasPassed (bus bus' : BusState) : Type 0 where
  pub left : clocks_left bus'.beam ≡ clocks_left bus.beam - 6
  pub calm : IsCalm bus → IsCalm bus'

-- the console state of a processor and a bus where nothing else is due; the beam comes to its next place at the stamp
-- `goal`
pub record IsBefore (region : Region) (goal : ℕ) (cpu : Cpu) (bus : BusState) (w : ConsoleState) : Type 0 where
  pub at : IsAt cpu bus w
  pub console : IsConsoleOf region w
  pub calm : IsCalm bus
  pub wired : IsWired cpu bus
  pub place : rate_of region Console * (w.clock + clocks_left bus.beam) ≡ goal

-- the stamp of the next step then
abbrev pub stamp_before : Region → ℕ → BusState → ℕ
stamp_before region goal bus = goal - rate_of region Console * clocks_left bus.beam

-- steps over the ports, begun before that place, led to such a state again
abbrev pub RunsBefore : {Ports : Type 0} → Calls Ports → Region → ℕ → Cpu → Cpu → BusState → BusState
    → (Ports → Type 0) → (Ports → Type 0) → Type 0
RunsBefore calls region goal cpu cpu' bus bus' stood stand =
    (until : ℕ) (waits : List ℕ) (w : ConsoleState) (p : _) → goal ≤ until → IsBefore region goal cpu bus w → stood p
    → IsOnWay console_moves calls until (IsBefore region goal cpu' bus') stand waits waits w p

-- and there the call of the next one was refused
abbrev pub HeldBefore : {Ports : Type 0} → Calls Ports → Region → ℕ → Cpu → Cpu → BusState → BusState
    → (Ports → Type 0) → (Ports → Type 0) → Type 0
HeldBefore calls region goal cpu cpu' bus bus' stood stand =
    (until : ℕ) (waits : List ℕ) (w : ConsoleState) (p : _) → goal ≤ until → IsBefore region goal cpu bus w → stood p
    → HasGone console_moves calls until 1024 65536 (IsBefore region goal cpu' bus') stand waits waits Refused w p
