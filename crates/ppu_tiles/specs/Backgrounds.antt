-- What a background of modes 0 to 6 has at a dot: mosaic, scroll (also by column), map entry, flips, pixel,
-- colour. After the Super Nintendo Development Manual and nocash fullsnes; the combinations of mosaic and
-- 512 dots are this project's own profile.
use Rattle.std.specs.Prelude.{ℕ, Bool, true, not, ◌+◌, ◌-◌, ◌*◌, ◌/◌, ◌%◌, ◌==◌, ◌||◌, ◌&&◌, slice_index, if◌then◌else◌}
use Rattle.ppu_regs.specs.declared.registers.Registers.{Registers}
use Rattle.ppu_regs.specs.declared.registers.Background.{Background}
use Rattle.ppu_regs.specs.declared.dots.LayerDot.{LayerDot}
use Rattle.ppu_regs.specs.Picture.{Picture, background_of}
use Rattle.ppu_tiles.specs.declared.scrolls.Scroll.{Scroll}
use Rattle.tile_cache.specs.Bitplanes.{value_of}
use Rattle.ppu_tiles.specs.Modes.{depth_of, is_hires, has_offsets, tile_width, tile_height}

-- the first row or column of the mosaic block in which one lies
unfoldable pub block_start : Registers → Background → ℕ → ℕ
block_start r b n = if b.mosaic then n - n % (r.mosaic + 1) else n

-- the map: 32 by 32 entries a screen, a second screen to the right in a wide map, and one or two more below
-- in a tall one

-- the word of VRAM with the entry at a column and a row of tiles
unfoldable pub map_word : Background → ℕ → ℕ → ℕ
map_word b col row =
    let right = if b.wide then col / 32 % 2 * 0x400 else 0 in
    let below = if b.tall then row / 32 % 2 * (if b.wide then 0x800 else 0x400) else 0 in
    (b.map_base + row % 32 * 32 + col % 32 + right + below) % 32768

-- the entry at a pixel of the map: 15 flip y, 14 flip x, 13 priority, 12-10 palette, 9-0 tile
unfoldable pub entry_at : Picture → Background → ℕ → ℕ → ℕ
entry_at p b px py =
    slice_index p.vram (map_word b (px / tile_width p.registers.mode b) (py / tile_height b))

-- The scrolls of a layer at one place are ten bits across and down.

-- the scrolls of a background's registers
unfoldable pub own_scroll : Background → Scroll
own_scroll b = record { across = b.scroll_x % 1024; down = b.scroll_y % 1024 }

-- offset per tile: BG3's entry for column c (from 1), or the one `lower` pixels below
unfoldable pub offset_entry : Picture → ℕ → ℕ → ℕ
offset_entry p c lower =
    let b = p.registers.bg3 in
    entry_at p b (8 * (c - 1) + b.scroll_x / 8 % 128 * 8) (b.scroll_y % 1024 + lower)

-- whether an entry acts on a layer: bit 13 for BG1, bit 14 for BG2
abbrev pub acts_on : ℕ → ℕ → Bool
acts_on layer entry = (if layer == 1 then entry / 8192 % 2 else entry / 16384 % 2) == 1

-- the scroll across that an entry gives: its bits 9-3 above the low three bits of the register's
abbrev pub across_by : Scroll → ℕ → ℕ
across_by own entry = entry / 8 % 128 * 8 + own.across % 8

-- modes 2 and 6 read an entry for across and one 8 pixels lower for down
unfoldable pub two_offsets : ℕ → Scroll → ℕ → ℕ → Scroll
two_offsets layer own first second = record {
  across = if acts_on layer first then across_by own first else own.across;
  down = if acts_on layer second then second % 1024 else own.down;
}

-- mode 4 reads one entry; its bit 15 says down
unfoldable pub one_offset : ℕ → Scroll → ℕ → Scroll
one_offset layer own entry =
    if acts_on layer entry
    then (if entry / 32768 == 1 then (record own { down = entry % 1024 })
    else (record own { across = across_by own entry }))
    else own

-- the column of tiles in which pixel x of a row lies: a column begins where the scroll across, of which only
-- the low three bits count, begins a tile
abbrev pub column_of : Background → ℕ → ℕ
column_of b x = (x + b.scroll_x % 8) / 8

-- the scrolls of a layer in a column; the one at the left edge has the layer's own
unfoldable pub column_scroll : Picture → ℕ → ℕ → Scroll
column_scroll p layer c =
    let own = own_scroll (background_of p.registers layer) in
    if not (has_offsets p.registers.mode) || (c == 0) then own
    else if p.registers.mode == 4 then one_offset layer own (offset_entry p c 0)
    else two_offsets layer own (offset_entry p c 0) (offset_entry p c 8)

-- the place in a tile of `size` pixels, turned over where the entry says so
abbrev pub turned : Bool → ℕ → ℕ → ℕ
turned flip size n = if flip then size - 1 - n % size else n % size

-- the tile of a place in a large tile: its right half is the next tile, its lower half the 16th after
abbrev pub tile_of : ℕ → ℕ → ℕ → ℕ
tile_of entry x y = (entry % 1024 + x / 8 + 16 * (y / 8)) % 1024

-- the word of VRAM at which a line of a tile begins, of 4 * depth words a tile
unfoldable pub line_word : Background → ℕ → ℕ → ℕ → ℕ
line_word b depth tile y = (b.tile_base + tile * (4 * depth) + y % 8) % 32768

-- the value at a pixel of the map
unfoldable pub pixel_at : Picture → Background → ℕ → ℕ → ℕ → ℕ → ℕ
pixel_at p b depth entry px py =
    let x = turned (entry / 16384 % 2 == 1) (tile_width p.registers.mode b) px in
    let y = turned (entry / 32768 == 1) (tile_height b) py in
    value_of p.vram (line_word b depth (tile_of entry x y) y) depth (x % 8)

-- the colour's number of a value and a palette: 2 bits four colours a palette, in mode 0 after 32 for each
-- layer before; 4 bits sixteen; 8 bits the value
unfoldable pub number_of : ℕ → ℕ → ℕ → ℕ → ℕ → ℕ
number_of mode layer depth palette value =
    if depth == 2 then (if mode == 0 then 32 * (layer - 1) else 0) + 4 * palette + value
    else if depth == 4 then 16 * palette + value
    else value

-- the layer dot of a map entry and a value; value 0 is none. Direct colour is that of 8 bits where 2130 bit
-- 0 is set.
unfoldable pub layer_dot_of : Registers → ℕ → ℕ → ℕ → LayerDot
layer_dot_of r layer entry value =
    let depth = depth_of r.mode layer in
    let palette = entry / 1024 % 8 in
    let direct = (depth == 8) && r.colour.direct in
    record {
      on = not (value == 0);
      priority = entry / 8192 % 2;
      number = number_of r.mode layer depth palette value;
      direct = direct;
      palette = if direct then palette else 0;
      math = true;
    }

-- the layer dot of a layer at pixel x of row y, both after mosaic; `odd` is the dot of the pixel's pair, which
-- counts in modes 5 and 6, where each dot is a pixel of the map
unfoldable pub layer_dot_at : Picture → ℕ → ℕ → ℕ → ℕ → LayerDot
layer_dot_at p layer y x odd =
    let r = p.registers in
    let b = background_of r layer in
    let s = column_scroll p layer (column_of b x) in
    let px = if is_hires r.mode then 2 * (x + s.across) + odd else x + s.across in
    let py = y + 1 + s.down in
    let entry = entry_at p b px py in
    layer_dot_of r layer entry (pixel_at p b (depth_of r.mode layer) entry px py)

-- the layer dot of a layer at dot e, 0 to 511, of a row; pixel x is the dots 2x and 2x + 1
unfoldable pub background_layer_dot : Picture → ℕ → ℕ → ℕ → LayerDot
background_layer_dot p layer row e =
    let r = p.registers in
    let b = background_of r layer in
    layer_dot_at p layer (block_start r b row) (block_start r b (e / 2)) (e % 2)
