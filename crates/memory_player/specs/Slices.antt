-- The two slices of a run, and what was taken into them.
use Rattle.std.specs.Prelude.{◌≡◌, ℕ, ◌<◌, List, length}
use Rattle.snes_defs.specs.declared.ports.Side.{Side}
use Rattle.snes_defs.specs.declared.ports.Side.TheVariants.{Console, Sound}
use Rattle.memory_player.specs.declared.inputs.End.{End}
use Rattle.memory_player.specs.declared.inputs.End.TheVariants.{TooShort}
use Rattle.memory_player.specs.declared.filling.Filling.{Filling}
use Rattle.memory_player.specs.declared.slices.Slices.{Slices}
use Rattle.memory_player.specs.Filled.{Handed, OnlyFront}

-- the slice for the bytes of a side
abbrev pub filling_of : Slices → Side → Filling
filling_of s Console = s.video
filling_of s Sound = s.sound

-- these are all the bytes of a side that were handed to its slice
abbrev pub HoldsIn : Slices → Side → List ℕ → Type 0
HoldsIn s side bytes = Handed (filling_of s side).bytes.items (filling_of s side).count bytes

-- the slice of a side was handed more than it has room for
abbrev pub IsOverfull : Slices → Side → Type 0
IsOverfull s side = length (filling_of s side).bytes.items < (filling_of s side).count

-- an end names a side whose slice was handed more
abbrev pub ShortIn : Slices → End → Type 0
ShortIn s (TooShort side) = IsOverfull s side
ShortIn s _ = ⊥

-- it is the same slice of the caller, of which only the front was changed
pub record OnlyFilled (a b : Filling) : Type 0 where
  pub front : OnlyFront a.bytes.items b.bytes.items a.count b.count

pub record OnlyFills (a b : Slices) : Type 0 where
  pub video : OnlyFilled a.video b.video
  pub sound : OnlyFilled a.sound b.sound
