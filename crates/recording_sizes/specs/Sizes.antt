-- The sizes of a recording.
use Rattle.std.specs.Prelude.{◌≡◌, ℕ, ◌*◌, List, length}
use Rattle.snes_defs.specs.declared.region.Region.{Region}
use Rattle.clock_ratio.specs.Stamp.{end_stamp_of, samples_before_of}

-- a picture has 239 rows of 512 dots, of two bytes each. A sample has two bytes for the left and two for the right
pub record HaveSizesOf (region : Region) (frames : ℕ) (video audio : List ℕ) : Type 0 where
  pub video_size : length video ≡ 244736 * frames
  pub audio_size : length audio ≡ 4 * samples_before_of region (end_stamp_of region frames)
