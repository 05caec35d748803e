-- Where the sums of a file and those of a run first differ.
use Rattle.std.specs.Prelude.{◌≡◌, ◌≢◌, ℕ, ◌<◌, ◌≤◌, List, [], length, slice_index_or, Option, Some, None}
use Rattle.sha2.specs.Sha256.{sha256}
use Rattle.snes_defs.specs.declared.region.Region.{Region}
use Rattle.snes_defs.specs.declared.ports.Side.TheVariants.{Console, Sound}
use Rattle.frame_sums.specs.declared.compare.Difference.{Difference}
use Rattle.frame_sums.specs.declared.compare.Difference.TheVariants as differs
use Rattle.frame_sums.specs.Pieces.{piece_of}
use Rattle.frame_sums.specs.declared.file.SumPair.{SumPair}
use Rattle.frame_sums.specs.SumsFile.{SumsIn}

-- the sums of a run that emits this video and this audio: of a frame, and of all
abbrev pub run_pair : Region → (video audio : List ℕ) → ℕ → SumPair
run_pair region video audio frame =
    record { picture = sha256 (piece_of region Console frame video); sound = sha256 (piece_of region Sound frame audio) }

abbrev pub run_all : (video audio : List ℕ) → SumPair
run_all video audio = record { picture = sha256 video; sound = sha256 audio }

-- the sums of a frame in a file
abbrev pub pair_at : SumsIn → ℕ → SumPair
pair_at file frame = slice_index_or file.frames frame (record { picture = []; sound = [] })

module _ (file : SumsIn) (frames : ℕ) (pair : ℕ → SumPair) (all : SumPair) where
  -- the file and the run have the same sums of the first frames
  abbrev pub AreSame : ℕ → Type 0
  AreSame count = (frame : ℕ) → frame < count → pair_at file frame ≡ pair frame

  -- both have this frame, and the same sums of all before it
  pub record IsReached (frame : ℕ) : Type 0 where
    pub in_run : frame < frames
    pub in_file : frame < length file.frames
    pub before : AreSame frame

  -- both have the same frames
  pub record AreFramesSame : Type 0 where
    pub count : length file.frames ≡ frames
    pub frames_are : AreSame frames

  -- The first difference: the picture of a frame that both have; its samples, where the pictures are the same; the number of
  -- frames, where all that both have are the same; and then all pictures, or all samples.
  abbrev pub IsFirst : Difference → Type 0
  IsFirst (differs.Picture frame) = IsReached frame × ((pair_at file frame).picture ≢ (pair frame).picture)
  IsFirst (differs.Sound frame) = IsReached frame × ((pair_at file frame).picture ≡ (pair frame).picture) × ((pair_at file frame).sound ≢ (pair frame).sound)
  IsFirst differs.Frames = ((count : ℕ) → count ≤ frames → count ≤ length file.frames → AreSame count) × (length file.frames ≢ frames)
  IsFirst differs.AllPictures = AreFramesSame × (file.all.picture ≢ all.picture)
  IsFirst differs.AllSound = AreFramesSame × (file.all.picture ≡ all.picture) × (file.all.sound ≢ all.sound)

  -- no difference: each line of the file is that of the run
  abbrev pub IsFound : Option Difference → Type 0
  IsFound None = AreFramesSame × (file.all ≡ all)
  IsFound (Some difference) = IsFirst difference
