-- Where the parts of an AVI file lie.
--
-- A file has parts of 1,800 frames, since a part has to stay below a gigabyte. In a part stand, for each frame, a chunk
-- of its picture and a chunk of its samples, then an index of each stream; the first part has an index in the old
-- form as well.
use Rattle.std.specs.Prelude.{ℕ, ◌+◌, ◌-◌, ◌*◌, min}
use Rattle.snes_defs.specs.declared.region.Region.{Region}
use Rattle.clock_ratio.specs.Stamp.{samples_before_of, end_stamp_of}

-- how many samples the first frames have
abbrev pub samples_upto_of : Region → ℕ → ℕ
samples_upto_of region frames = samples_before_of region (end_stamp_of region frames)

-- the bytes of the chunks of some frames: 16 of heads and 489,472 of a picture each, and four a sample
abbrev pub chunks_of : Region → ℕ → ℕ → ℕ
chunks_of region from upto = 489488 * (upto - from) + 4 * (samples_upto_of region upto - samples_upto_of region from)

-- the frames of a part: from the first on up to, but without, the second
abbrev pub part_from : ℕ → ℕ → ℕ
part_from frames part = min (1800 * part) frames

abbrev pub part_upto : ℕ → ℕ → ℕ
part_upto frames part = min (1800 * part + 1800) frames

-- the bytes of one stream's index of so many chunks, with its head
abbrev pub index_of : ℕ → ℕ
index_of count = 32 + 8 * count

-- the bytes of the list `movi` behind its length: its name, the chunks and the two indexes
abbrev pub movi_of : Region → ℕ → ℕ → ℕ
movi_of region from upto = 4 + chunks_of region from upto + 2 * index_of (upto - from)
