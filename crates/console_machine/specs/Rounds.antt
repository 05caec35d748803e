-- Rounds that go on over places of the beam where nothing comes but a refresh or the next line: what stays of the bus,
-- and what a round is wherever the beam stands.
use Rattle.std.specs.Prelude.{◌≡◌, ℕ, ◌<◌, Bool, [], if◌then◌else◌}
use Rattle.cpu65816.specs.declared.processor.Cpu.{Cpu}
use Rattle.beam.specs.Events.{BeamValue, passed}
use Rattle.console_bus.specs.BusState.{BusState}
use Rattle.console_steps.specs.ConsoleState.{ConsoleState}
use Rattle.console_steps.specs.Stands.{IsAt}
use Rattle.console_steps.specs.AtOnce.{gone_on}
use Rattle.console_steps.specs.Plain.{IsWired, IsCalm}
use Rattle.console_machine.specs.Runs.{HasRun, LooksTo}

-- one state of the bus is the other but for the beam and the byte last on it
abbrev pub IsElsewhere : BusState → BusState → Type 0
IsElsewhere old new = new ≡ record old { last = new.last; beam = new.beam }

-- a run that leads to processor and bus, where nothing else is due, and changed no more of the bus than that
pub record HasGone (cpu' : Cpu) (bus bus' : BusState) (w : ConsoleState) (clocks : ℕ) : Type 0 where
  pub run : HasRun cpu' bus' w clocks
  pub wired : IsWired cpu' bus'
  pub calm : IsCalm bus'
  pub same : IsElsewhere bus bus'

-- from processor and bus, where nothing else is due, such a run led to these
abbrev pub GoesOn : Cpu → Cpu → BusState → BusState → ℕ → Type 0
GoesOn cpu cpu' bus bus' clocks = (w : ConsoleState) → IsAt cpu bus w → w.rest.beam.h < 1364 → IsCalm bus
    → IsWired cpu bus → HasGone cpu' bus bus' w clocks

-- steps that only look, of so many clocks, lead a processor back to itself wherever the beam stands, as long as nothing
-- comes in them
abbrev pub IsRound : Cpu → BusState → ℕ → Type 0
IsRound cpu bus clocks = (b : BeamValue) → passed bus.picture.registers.settings.overscan b clocks ≡ []
    → (w : ConsoleState) → IsAt cpu (record bus { beam = b }) w
    → LooksTo cpu (gone_on (record bus { beam = b }) clocks) w clocks

-- .. where they begin and end with this byte last on the bus
abbrev pub IsRoundFrom : Cpu → BusState → ℕ → ℕ → Type 0
IsRoundFrom cpu bus byte clocks = IsRound cpu (record bus { last = byte }) clocks

-- so many clocks lead every processor that begins such a round there back to itself
abbrev pub GoesOver : BusState → BusState → ℕ → ℕ → Type 0
GoesOver old new round clocks = (cpu : Cpu) (byte : ℕ) → IsRoundFrom cpu old byte round → old.last ≡ byte
    → GoesOn cpu cpu old new clocks

-- the clocks of a refresh that is due or not
abbrev pub refresh_clocks : Bool → ℕ
refresh_clocks due = if due then 40 else 0
