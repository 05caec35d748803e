-- How a row of a background is cut into columns of one tile: column c is the pixels x whose place from the
-- scroll's low three bits on, x + scroll % 8, is 8c to 8c + 7. A column has one scroll and one map entry. These
-- words are for the steps below `ranked_row`; a reader of its contract needs none of them but `base_of`.
use Rattle.std.specs.Prelude.{ℕ, Bool, true, not, ◌+◌, ◌-◌, ◌*◌, ◌/◌, ◌%◌, ◌==◌, ◌||◌, ◌&&◌, List, IsTrue}
use Rattle.std.specs.Prelude.{if◌then◌else◌}
use Rattle.ppu_regs.specs.declared.registers.Registers.{Registers}
use Rattle.ppu_regs.specs.declared.registers.Background.{Background}
use Rattle.ppu_regs.specs.declared.dots.LayerDot.{LayerDot}
use Rattle.ppu_regs.specs.Picture.{Picture, background_of}
use Rattle.tile_cache.specs.Bitplanes.{value_of}
use Rattle.ppu_tiles.specs.Modes.{depth_of, is_hires, tile_height}
use Rattle.ppu_tiles.specs.Backgrounds.{column_scroll, entry_at, pixel_at, number_of, turned, tile_of, line_word}

-- the byte in the plane of ranks for a layer dot's priority
abbrev pub base_of : ℕ → ℕ → LayerDot → ℕ
base_of low high c = if c.priority == 1 then high else low

-- a depth that a layer of modes 0 to 6 has
abbrev pub IsDepth : ℕ → Type 0
IsDepth depth = IsTrue ((depth == 2) || (depth == 4) || (depth == 8))

-- the word of the line in which place x of a tile lies, at row py of the map
unfoldable pub half_word : Background → ℕ → ℕ → ℕ → ℕ → ℕ
half_word b depth entry x py =
    let y = turned (entry / 32768 == 1) (tile_height b) py in line_word b depth (tile_of entry x y) y

-- pixel k, from the left on the screen, of the half of a tile of `size` pixels in which its place n lies
unfoldable pub half_value : List ℕ → Background → ℕ → ℕ → ℕ → ℕ → ℕ → ℕ → ℕ
half_value vram b depth entry size n py k =
    let flip : Bool = entry / 16384 % 2 == 1 in
    value_of vram (half_word b depth entry (turned flip size n) py) depth (if flip then 7 - k else k)

-- a column whose place in the map is m, in eights of pixels: its first pixel, and the one at place j
abbrev pub column_start : ℕ → ℕ → ℕ
column_start mode m = if is_hires mode then 16 * m else 8 * m

abbrev pub column_place : ℕ → ℕ → ℕ → ℕ → ℕ
column_place mode m odd j = if is_hires mode then 2 * (8 * m + j) + odd else 8 * m + j

-- of column c of row y: its place in the map, its row there, and its map entry
abbrev pub column_m : Picture → ℕ → ℕ → ℕ
column_m p layer c = c + (column_scroll p layer c).across / 8

abbrev pub column_row : Picture → ℕ → ℕ → ℕ → ℕ
column_row p layer y c = y + 1 + (column_scroll p layer c).down

abbrev pub column_entry : Picture → ℕ → ℕ → ℕ → ℕ
column_entry p layer y c =
    entry_at p (background_of p.registers layer) (column_start p.registers.mode (column_m p layer c))
    (column_row p layer y c)

-- the value at place j of column c
unfoldable pub column_value : Picture → ℕ → ℕ → ℕ → ℕ → ℕ → ℕ
column_value p layer y odd c j =
    pixel_at p (background_of p.registers layer) (depth_of p.registers.mode layer) (column_entry p layer y c)
    (column_place p.registers.mode (column_m p layer c) odd j) (column_row p layer y c)

-- the palette of direct colour, where colours are direct
abbrev pub direct_palette_of : Registers → ℕ → ℕ → ℕ
direct_palette_of r depth entry = if (depth == 8) && r.colour.direct then entry / 1024 % 8 else 0

-- the byte of a column in the plane of ranks
unfoldable pub column_base : Picture → ℕ → ℕ → ℕ → ℕ → ℕ → ℕ
column_base p layer y low high c =
    (if column_entry p layer y c / 8192 % 2 == 1 then high else low)
    + direct_palette_of p.registers (depth_of p.registers.mode layer) (column_entry p layer y c)

-- the number from which a column's values are counted
unfoldable pub column_first : Picture → ℕ → ℕ → ℕ → ℕ
column_first p layer y c =
    number_of p.registers.mode layer (depth_of p.registers.mode layer) (column_entry p layer y c / 1024 % 8) 0

-- the attributes of a map entry in a byte, where values are of 2 or 4 bits: the number from which they are counted, and
-- the priority as bit 7
unfoldable pub attribute_of : ℕ → ℕ → ℕ → ℕ → ℕ
attribute_of mode layer depth entry = number_of mode layer depth (entry / 1024 % 8) 0 + 128 * (entry / 8192 % 2)

-- the layer dot that two bytes of a row stand for, where the byte of priority 1 is 32 and that of 0 is 16
unfoldable pub planes_layer_dot : ℕ → ℕ → Bool → LayerDot
planes_layer_dot rank number direct = record {
  on = not (rank == 0);
  priority = rank / 32;
  number = number;
  direct = direct;
  palette = rank % 8;
  math = true;
}
