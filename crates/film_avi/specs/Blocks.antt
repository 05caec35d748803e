-- The blocks of an AVI file.
use Rattle.std.specs.Prelude.{ℕ, ◌+◌, ◌*◌, List, [], ◌∷◌, ◌++◌, codes, length}
use Rattle.film_formats.specs.Numbers.{little2, little4, little8}
use Rattle.snes_defs.specs.declared.region.Region.{Region}
use Rattle.snes_defs.specs.declared.region.Region.TheVariants.{Ntsc, Pal}

-- a chunk: its name, the length of its bytes, its bytes
abbrev pub chunk : List ℕ → List ℕ → List ℕ
chunk name bytes = name ++ little4 (length bytes) ++ bytes

-- frames a second are this number by the next: 236,250,000/11 master clocks a second by 262 lines of 1,364 in Ntsc,
-- 21,281,370 by 312 lines of 1,364 in Pal
abbrev pub rate_of : Region → ℕ
rate_of Ntsc = 236250000
rate_of Pal = 21281370

abbrev pub scale_of : Region → ℕ
scale_of Ntsc = 3931048
scale_of Pal = 425568

-- the microseconds of a frame, rounded
abbrev pub microseconds_of : Region → ℕ
microseconds_of Ntsc = 16639
microseconds_of Pal = 19997

-- avih: microseconds a frame, most bytes a second (not told), padding (none), flags (with an index, and interleaved),
-- frames of the first part, frames before the first, two streams, the largest chunk, 512 by 478, reserved
abbrev pub main_header : Region → ℕ → List ℕ
main_header region frames =
    little4 (microseconds_of region) ++ little4 0 ++ little4 0 ++ little4 272
    ++ little4 frames ++ little4 0 ++ little4 2 ++ little4 489472 ++ little4 512 ++ little4 478
    ++ little4 0 ++ little4 0 ++ little4 0 ++ little4 0

-- strh of the picture: uncompressed frames at the exact rate
abbrev pub picture_header : Region → ℕ → List ℕ
picture_header region frames =
    codes "vids" ++ little4 0 ++ little4 0 ++ little4 0 ++ little4 0
    ++ little4 (scale_of region) ++ little4 (rate_of region) ++ little4 0 ++ little4 frames
    ++ little4 489472 ++ little4 4294967295 ++ little4 0 ++ little2 0 ++ little2 0 ++ little2 512 ++ little2 478

-- strf of the picture: 512 by 478, from the bottom up, one plane, 16 bits a dot (blue in the low five, then green,
-- then red), nothing compressed
abbrev pub picture_format : List ℕ
picture_format =
    little4 40 ++ little4 512 ++ little4 478 ++ little2 1 ++ little2 16 ++ little4 0 ++ little4 489472
    ++ little4 0 ++ little4 0 ++ little4 0 ++ little4 0

-- strh of the sound: 32,000 samples a second of four bytes
abbrev pub sound_header : ℕ → List ℕ
sound_header samples =
    codes "auds" ++ little4 0 ++ little4 0 ++ little4 0 ++ little4 0
    ++ little4 1 ++ little4 32000 ++ little4 0 ++ little4 samples
    ++ little4 2560 ++ little4 4294967295 ++ little4 4 ++ little2 0 ++ little2 0 ++ little2 0 ++ little2 0

-- strf of the sound: plain numbers, two channels, samples and bytes a second, bytes a sample, bits, nothing more
abbrev pub sound_format : List ℕ
sound_format = little2 1 ++ little2 2 ++ little4 32000 ++ little4 128000 ++ little2 4 ++ little2 16 ++ little2 0

-- the entry of a part in the index of a stream: where its own index stands, its length and what it lasts
abbrev pub part_entry : ℕ → ℕ → ℕ → List ℕ
part_entry offset size duration = little8 offset ++ little4 size ++ little4 duration

-- an entry of a part's index of a stream: where a chunk's bytes stand behind the base, and how many they are
abbrev pub chunk_entry : ℕ → ℕ → List ℕ
chunk_entry offset size = little4 offset ++ little4 size

-- an entry of the old index: the name of a chunk, that it stands by itself, where it is behind `movi`, its length
abbrev pub old_entry : List ℕ → ℕ → ℕ → List ℕ
old_entry name offset size = name ++ little4 16 ++ little4 offset ++ little4 size
