-- A leg: what a side runs by itself between two moments at which it hears of the other.
use Rattle.std.specs.Prelude.{ℕ, List}
use Rattle.snes_defs.specs.declared.ports.Side.{Side}
use Rattle.port_entries.specs.Entry.{Entry}
use Rattle.side_law.specs.Moves.{Moves}
use Rattle.commute_laws.specs.History.{History}
use Rattle.commute_laws.specs.Heard.{HeardRun, StepsBelow}

-- a run against the list `heard`, with no look at a stamp that isn't settled at `upto`, of which no
-- step was made at `end` or later
pub record IsLeg {State : Type 0} (side : Side) (moves : Moves State) (heard : List Entry) (upto end : ℕ) (before after : History State) : Type 0 where
  pub ran : HeardRun side moves heard upto before after
  pub below : StepsBelow side moves heard end ran.steps before
