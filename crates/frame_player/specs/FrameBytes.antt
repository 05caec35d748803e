-- The room for the bytes of a frame, and what it took.
use Rattle.std.specs.Prelude.{◌≡◌, ℕ, ◌+◌, min, List, length, take}
use Rattle.snes_defs.specs.declared.ports.Side.{Side}
use Rattle.snes_defs.specs.declared.ports.Side.TheVariants.{Console, Sound}
use Rattle.frame_player.specs.declared.frame_bytes.SideBytes.{SideBytes}
use Rattle.frame_player.specs.declared.frame_bytes.FrameBytes.{FrameBytes}

-- these bytes were put into a room. It has them in front, as far as they fit; the count is one more than its size where
-- they do not
pub record Takes (room : List ℕ) (count : ℕ) (bytes : List ℕ) : Type 0 where
  pub count_is : count ≡ min (length bytes) (length room + 1)
  pub front : take (length bytes) room ≡ take (length room) bytes

-- the room for the bytes of a side
abbrev pub side_of : FrameBytes → Side → SideBytes
side_of f Console = f.video
side_of f Sound = f.sound

abbrev pub TakesOf : FrameBytes → Side → List ℕ → Type 0
TakesOf f side bytes = Takes (side_of f side).bytes.items (side_of f side).count bytes

-- the rooms are as large as before
pub record SameRooms (a b : FrameBytes) : Type 0 where
  pub video : length b.video.bytes.items ≡ length a.video.bytes.items
  pub sound : length b.sound.bytes.items ≡ length a.sound.bytes.items
