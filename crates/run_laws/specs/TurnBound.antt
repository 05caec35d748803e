-- Turns of a run to an end stamp: each makes some steps below it, and there is a most of them. This
-- project's own profile.
use Rattle.std.specs.Prelude.{◌≡◌, ℕ, ◌+◌, ◌*◌, ◌<◌, ◌≤◌, List, [], ◌∷◌, ◌++◌, length}
use Rattle.std.specs.List.{AllByRecursion}
use Rattle.snes_defs.specs.declared.region.Region.{Region}
use Rattle.snes_defs.specs.declared.region.Region.TheVariants.{Ntsc, Pal}
use Rattle.snes_defs.specs.declared.ports.Side.{Side}
use Rattle.snes_defs.specs.declared.ports.Side.TheVariants.{Console, Sound}
use Rattle.clock_ratio.specs.Stamp.{stamp_of}
use Rattle.side_law.specs.Moves.{Moves}

-- a step that a side makes, and the byte that it gets
pub data Made : Type 0 where
  By : (side : Side) (got : ℕ) → Made

module _ {C S : Type 0} (region : Region) (console_moves : Moves C) (sound_moves : Moves S) where
  -- each of the steps is made at a stamp below the end, and each step of the sound side raises its
  -- stamp by that of one sound cycle
  abbrev pub AreBelow : ℕ → List Made → C → S → Type 0
  AreBelow end [] c s = Unit {0}
  AreBelow end (By Console got ∷ rest) c s =
      (console_moves.stamp c < end) × (got < 256) × AreBelow end rest (console_moves.next c got) s
  AreBelow end (By Sound got ∷ rest) c s =
      (sound_moves.stamp s < end) × (got < 256)
      × (sound_moves.stamp (sound_moves.next s got) ≡ sound_moves.stamp s + stamp_of region Sound 1)
      × AreBelow end rest c (sound_moves.next s got)

-- the steps of all turns, in order
abbrev pub steps_in : List (List Made) → List Made
steps_in [] = []
steps_in (turn ∷ turns) = turn ++ steps_in turns

-- each turn makes at least one step
abbrev pub EachSteps : List (List Made) → Type 0
EachSteps turns = AllByRecursion (λ turn. 1 ≤ length turn) turns

-- the turns of a frame: it has at most 59,561 and a third steps of the console and 17,039 of the sound
-- side in Ntsc, and 70,928 and 20,478 in Pal
abbrev pub frame_turns : Region → ℕ
frame_turns Ntsc = 76602
frame_turns Pal = 91406

-- the most turns that a run of so many frames takes
abbrev pub most_turns : Region → ℕ → ℕ
most_turns region frames = frame_turns region * frames + 2
