-- The patterns of DMAP bits 2 to 0. Source: fullsnes, "SNES DMA and HDMA Channel 0..7 Registers" (unit sizes).
use Rattle.std.specs.Prelude.{ℕ, ◌+◌, ◌*◌, ◌%◌, List, [], ◌∷◌, slice_index}

-- what a pattern adds to the B address for four bytes one after another; shorter patterns begin again
abbrev pub offsets : List ℕ
offsets =
    (0 ∷ 0 ∷ 0 ∷ 0 ∷  -- 0: one register
    0 ∷ 1 ∷ 0 ∷ 1 ∷  -- 1: two registers
    0 ∷ 0 ∷ 0 ∷ 0 ∷  -- 2: one register, twice
    0 ∷ 0 ∷ 1 ∷ 1 ∷  -- 3: two registers, each twice
    0 ∷ 1 ∷ 2 ∷ 3 ∷  -- 4: four registers
    0 ∷ 1 ∷ 0 ∷ 1 ∷  -- 5: two registers, twice
    0 ∷ 0 ∷ 0 ∷ 0 ∷  -- 6: as 2
    0 ∷ 0 ∷ 1 ∷ 1 ∷ [])  -- 7: as 3

-- how many bytes HDMA moves at a line, for the patterns from 0 on
abbrev pub lengths : List ℕ
lengths = 1 ∷ 2 ∷ 2 ∷ 4 ∷ 4 ∷ 4 ∷ 2 ∷ 4 ∷ []

-- what is added at a place in the pattern of this DMAP
unfoldable pub offset_of : ℕ → ℕ → ℕ
offset_of mode place = slice_index offsets (mode % 8 * 4 + place % 4)

-- how many bytes HDMA moves at a line, by this DMAP
unfoldable pub length_of : ℕ → ℕ
length_of mode = slice_index lengths (mode % 8)

-- a 24-bit address
abbrev pub address : ℕ → ℕ → ℕ
address bank offset = bank * 65536 + offset
