-- Where a call on the log is refused, by the clock that the other side has published.
use Rattle.std.specs.Prelude.{ℕ, ◌+◌, ◌<◌, ◌≤◌}
use Rattle.snes_defs.specs.declared.ports.Side.{Side}
use Rattle.snes_defs.specs.declared.ports.Side.TheVariants.{Console, Sound}

-- the other side may still write what the side sees at the stamp
abbrev pub IsBehind : Side → ℕ → ℕ → Type 0
IsBehind Console at other = other < at
IsBehind Sound at other = other ≤ at

-- the stamp lies past a window of so many stamps
abbrev pub IsAhead : ℕ → ℕ → ℕ → Type 0
IsAhead window at other = other + window < at
