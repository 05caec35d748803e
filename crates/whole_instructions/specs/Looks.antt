-- Accesses that only look, made ahead of the bus: they change nothing of it but the byte last on it, and the beam.
use Rattle.std.specs.Prelude.{ℕ, ◌<◌}
use Rattle.cpu_tables.specs.declared.regs.Regs.{Regs}
use Rattle.cpu_modes.specs.Plan.{Plan}
use Rattle.beam.specs.Events.{BeamValue, beam_after}
use Rattle.beam.specs.Places.{clocks_left}
use Rattle.console_bus.specs.BusState.{BusState}
use Rattle.whole_instructions.specs.Passes.{Passes}

-- the bus with another byte last on it, and the beam elsewhere
abbrev pub seen : BusState → ℕ → BeamValue → BusState
seen bus last b = record bus { last = last; beam = b }

abbrev pub beam_on : BusState → BeamValue → ℕ → BeamValue
beam_on bus b clocks = beam_after bus.picture.registers.settings.overscan b clocks

-- Accesses of so many clocks lead from one plan to another, wherever the beam stands, as long as it comes to no place
-- in them. `last` and `last'` are the bytes last on the bus before and after them.
abbrev pub Makes : BusState → Regs → Plan → ℕ → BusState → Regs → Plan → ℕ → ℕ → Type 0
Makes bus start plan last bus' start' plan' last' clocks = (b : BeamValue) → clocks < clocks_left b
    → Passes start start' plan plan' (seen bus last b) (seen bus' last' (beam_on bus b clocks))

-- .. that only look
abbrev pub Looks : BusState → Regs → Plan → ℕ → Regs → Plan → ℕ → ℕ → Type 0
Looks bus start plan last start' plan' last' clocks = Makes bus start plan last bus start' plan' last' clocks
