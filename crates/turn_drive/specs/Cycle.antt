-- A sound side that makes one step for each of its cycles.
use Rattle.std.specs.Prelude.{◌≡◌, ℕ, ◌+◌, ◌<◌}
use Rattle.snes_defs.specs.declared.region.Region.{Region}
use Rattle.snes_defs.specs.declared.ports.Side.TheVariants.{Sound}
use Rattle.clock_ratio.specs.Stamp.{stamp_of}
use Rattle.side_law.specs.Moves.{Moves}

-- each step from a valid state raises the stamp by that of one cycle
abbrev pub StepsByCycle : {State : Type 0} → Region → (State → Type 0) → Moves State → Type 0
StepsByCycle {State} region valid moves = (m : State) (got : ℕ) → valid m → got < 256
    → moves.stamp (moves.next m got) ≡ moves.stamp m + stamp_of region Sound 1
