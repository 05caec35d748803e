-- What each call of a console does.
use Rattle.std.specs.Prelude.{◌≡◌, ℕ, ◌+◌, ◌-◌, ◌*◌, ◌<◌, ◌≤◌, List, [], length, min, slice_index_or, ◌⊎◌}
use Rattle.snes_defs.specs.declared.cart.Job.{Job}
use Rattle.snes_defs.specs.declared.region.Region.{Region}
use Rattle.clock_ratio.specs.Stamp.{end_stamp_of, samples_before_of}
use Rattle.snes_defs.specs.declared.ports.Side.{Side}
use Rattle.snes_defs.specs.declared.ports.Side.TheVariants.{Console, Sound}
use Rattle.plan_drive.specs.Paths.{Paths}
use Rattle.snapshot.specs.declared.rewind.Rewind.{Rewind}
use Rattle.snapshot.specs.Positions.{IsRested, IsBeyond, slot_count}
use Rattle.memory_player.specs.declared.inputs.End.TheVariants as end
use Rattle.memory_player.specs.Filled.{in_front}
use Rattle.memory_player.specs.Inputs.{told_of, EndsInputs}
use Rattle.frame_player.specs.declared.ends.BeginEnd.{BeginEnd}
use Rattle.frame_player.specs.declared.ends.BeginEnd.TheVariants as begin
use Rattle.frame_player.specs.declared.ends.FrameEnd.{FrameEnd}
use Rattle.frame_player.specs.declared.ends.FrameEnd.TheVariants as frame
use Rattle.frame_player.specs.declared.console.Frames.{Frames}
use Rattle.frame_player.specs.Told.{Told, IsJobOf, boot_of, gone_on, no_way, path_of, path_told, region_of, table_of}

-- A REWINDER STANDS at the path that was told, and its slots hold the paths that were told
pub record StandsAt (told : Told) (r : Rewind) : Type 0 where
  pub job : Job
  pub is : IsJobOf told job
  pub paths : Paths
  pub rested : IsRested job told.most paths r
  pub path_is : paths.path ≡ path_told told
  pub held_are : (k : ℕ) → k < length told.held → paths.held k ≡ path_of (slice_index_or told.held k no_way)
  pub slots : slot_count r ≡ length told.held
  pub slots_few : length told.held ≤ 64
  pub few : told.most ≤ 36000

-- THE CONSOLE of what was told
pub record IsFramesOf (told : Told) (f : Frames) : Type 0 where
  pub stands : StandsAt told f.rewind
  pub most_is : f.most ≡ told.most
  pub slots_is : f.slots ≡ length told.held
  pub region_is : f.region ≡ region_of told.region

-- WHAT A FRAME HANDS OUT: what the serial console emits for the job with the pads and resets of the path and with the pads
-- of this frame, beyond what it emits for the job with those of the path
abbrev pub IsFrameOf : Told → (pad1 pad2 : ℕ) → (picture samples : List ℕ) → Type 0
IsFrameOf told pad1 pad2 picture samples =
    (job : Job) → IsJobOf told job
    → IsBeyond job told.most (path_told told) (path_told (gone_on told pad1 pad2)) picture samples

-- a rewinder went on by a frame, and these rooms took what it emits
pub record WentOn (told : Told) (pad1 pad2 : ℕ)
    (holds : Side → List ℕ → Type 0) (r : Rewind) : Type 0 where
  pub picture : List ℕ
  pub samples : List ℕ
  pub is : IsFrameOf told pad1 pad2 picture samples
  pub picture_taken : holds Console picture
  pub samples_taken : holds Sound samples
  pub stands : StandsAt (gone_on told pad1 pad2) r

-- how many bytes the samples of a frame have, by its number from 0: those between its beginning and its end
abbrev pub samples_size : Region → ℕ → ℕ
samples_size region frame =
    4 * (samples_before_of region (end_stamp_of region (frame + 1)) - samples_before_of region (end_stamp_of region frame))

-- the room of a side among two, and the most that a frame has of it
abbrev pub room_of : (video_room sound_room : ℕ) → Side → ℕ
room_of video_room sound_room Console = video_room
room_of video_room sound_room Sound = sound_room

abbrev pub most_of : Side → ℕ
most_of = room_of 244736 2560

-- the bytes of a side
abbrev pub bytes_of : (picture samples : List ℕ) → Side → List ℕ
bytes_of picture samples Console = picture
bytes_of picture samples Sound = samples

module _ (told : Told) (pad1 pad2 : ℕ) (video_old sound_old video_new sound_new : List ℕ) where
  -- the frame stands in front of both rooms of the caller
  pub record FramePlayed (video_count sound_count : ℕ) : Type 0 where
    pub picture : List ℕ
    pub samples : List ℕ
    pub is : IsFrameOf told pad1 pad2 picture samples
    pub video_is : video_new ≡ in_front picture video_old
    pub sound_is : sound_new ≡ in_front samples sound_old
    pub video_count_is : video_count ≡ length picture
    pub sound_count_is : sound_count ≡ length samples

  -- both rooms are as they were
  pub record RoomsStay : Type 0 where
    pub video : video_new ≡ video_old
    pub sound : sound_new ≡ sound_old

  -- what the frame emits of a side is longer than the room for it, or than any frame should be
  abbrev pub IsLonger : Side → (picture samples : List ℕ) → Type 0
  IsLonger side picture samples =
      min (room_of (length video_old) (length sound_old) side) (most_of side) < length (bytes_of picture samples side)

  -- why no frame was played
  abbrev pub EndsFrame : FrameEnd → Type 0
  EndsFrame frame.Frames = (told.most ≤ length told.pads) × RoomsStay
  EndsFrame (frame.TooShort side) = (picture : List ℕ) × (samples : List ℕ) × IsFrameOf told pad1 pad2 picture samples
      × IsLonger side picture samples × RoomsStay

-- why no console was made
abbrev pub EndsBegin : (cart boot table : List ℕ) (most slots : ℕ) → BeginEnd → Type 0
EndsBegin cart boot table most slots begin.Frames = (most ≡ 0) ⊎ (36000 < most)
EndsBegin cart boot table most slots begin.Slots = 64 < slots
EndsBegin cart boot table most slots (begin.Refused cause) =
    EndsInputs (told_of cart (boot_of boot) (table_of table) []) (end.Refused cause)
EndsBegin cart boot table most slots begin.NoMemory = Unit {0}
