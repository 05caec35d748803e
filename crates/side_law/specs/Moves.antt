-- What a machine means, apart from the bytes that wait in it: a state, and four functions of it.
use Rattle.std.specs.Prelude.{ℕ, ◌+◌, ◌<◌, ◌≤◌, List, length}
use Rattle.snes_defs.specs.declared.ports.Act.{Act}
use Rattle.snes_defs.specs.declared.ports.Act.TheVariants.{Quiet, Read, Write, Clear}
use Rattle.snes_defs.specs.declared.region.Region.{Region}
use Rattle.clock_ratio.specs.Stamp.{least_of, most_of}

-- the moves of a machine. `next` and `bytes` are given the byte that the step takes
pub record Moves (State : Type 0) : Type 0 where
  -- the stamp of the next step
  pub stamp : State → ℕ
  -- what that step does at the ports
  pub act : State → Act
  -- the state after that step
  pub next : State → ℕ → State
  -- the bytes that it emits
  pub bytes : State → ℕ → List ℕ

-- the byte that a step takes of the one offered: a read takes it, any other step takes none
abbrev pub taken : Act → ℕ → ℕ
taken Quiet got = 0
taken (Read port) got = got
taken (Write port byte) got = 0
taken (Clear mask) got = 0

-- an act has a port below 4, a byte below 256 and a mask from 1 to 15
abbrev pub IsAtPorts : Act → Type 0
IsAtPorts Quiet = Unit {0}
IsAtPorts (Read port) = port < 4
IsAtPorts (Write port byte) = (port < 4) × (byte < 256)
IsAtPorts (Clear mask) = (1 ≤ mask) × (mask ≤ 15)

-- what every machine of a region keeps in its valid states, at each step by a byte: a step emits at
-- most `bytes` bytes
pub record IsLawful {State : Type 0} (region : Region) (valid : State → Type 0) (bytes : ℕ)
    (moves : Moves State) : Type 0 where
  pub at_ports : (m : State) → valid m → IsAtPorts (moves.act m)
  pub stays_valid : (m : State) (got : ℕ) → valid m → got < 256 → valid (moves.next m got)
  pub rises : (m : State) (got : ℕ) → valid m → got < 256
      → moves.stamp m + least_of region ≤ moves.stamp (moves.next m got)
  pub rises_at_most : (m : State) (got : ℕ) → valid m → got < 256
      → moves.stamp (moves.next m got) ≤ moves.stamp m + most_of region
  pub emits_at_most : (m : State) (got : ℕ) → valid m → got < 256 → length (moves.bytes m got) ≤ bytes
