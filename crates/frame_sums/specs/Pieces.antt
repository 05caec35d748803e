-- What a side emits in one frame of a run: the console its picture, the sound side its samples.
use Rattle.std.specs.Prelude.{ℕ, ◌+◌, ◌-◌, ◌*◌, List, take, drop}
use Rattle.snes_defs.specs.declared.region.Region.{Region}
use Rattle.snes_defs.specs.declared.ports.Side.{Side}
use Rattle.snes_defs.specs.declared.ports.Side.TheVariants.{Console, Sound}
use Rattle.clock_ratio.specs.Stamp.{end_stamp_of, samples_before_of}

-- the bytes of a picture: 512 by 239 pixels of two bytes
abbrev pub picture_size : ℕ
picture_size = 244736

-- The first byte of a frame, from 0, among all that a side emits. A frame begins at the end stamp of the run of all frames before
-- it, and its samples, of four bytes each, are those that are emitted from there on.
unfoldable pub start_of : Region → Side → ℕ → ℕ
start_of region Console frame = picture_size * frame
start_of region Sound frame = 4 * samples_before_of region (end_stamp_of region frame)

-- the bytes of a frame: from its first up to the first of the next one
abbrev pub piece_of : Region → Side → ℕ → List ℕ → List ℕ
piece_of region side frame bytes =
    take (start_of region side (frame + 1) - start_of region side frame) (drop (start_of region side frame) bytes)
