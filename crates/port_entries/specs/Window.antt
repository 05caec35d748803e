-- When a step may be made, by the clock that the other side has published: a promise that each of
-- its steps to come is at that stamp or later. This project's own profile.
use Rattle.std.specs.Prelude.{ℕ, ◌+◌, ◌<◌, ◌≤◌}
use Rattle.snes_defs.specs.declared.ports.Side.{Side}
use Rattle.snes_defs.specs.declared.ports.Side.TheVariants.{Console, Sound}

-- whatever the other side still writes, at `other` or later, the side doesn't see at `at`
abbrev pub IsSettled : Side → ℕ → ℕ → Type 0
IsSettled Console at other = at ≤ other
IsSettled Sound at other = at < other

-- not further ahead of the other side's clock than a window of so many stamps
abbrev pub IsWithinWindow : ℕ → ℕ → ℕ → Type 0
IsWithinWindow window at other = at ≤ other + window
