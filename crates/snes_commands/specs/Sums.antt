-- The sums of what was taken of both sides.
use Rattle.std.specs.Prelude.{◌≡◌, ℕ, List}
use Rattle.snes_defs.specs.declared.ports.Side.{Side}
use Rattle.snes_defs.specs.declared.ports.Side.TheVariants.{Console, Sound}
use Rattle.snes_commands.specs.declared.sums.Sums.{Sums}
use Rattle.snes_commands.specs.Demo.{sum_in}

-- the sum of a side
abbrev pub sum_of : Sums → Side → ℕ
sum_of sums Console = sums.video
sum_of sums Sound = sums.audio

-- these may be the bytes that were taken of a side
abbrev pub HasTaken : Sums → Side → List ℕ → Type 0
HasTaken sums side bytes = sum_of sums side ≡ sum_in bytes
