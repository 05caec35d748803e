-- The layers of the picture modes 0 to 6 and the sizes of their tiles (Super Nintendo Development Manual).
use Rattle.std.specs.Prelude.{ℕ, Bool, ◌==◌, ◌||◌, if◌then◌else◌}
use Rattle.ppu_regs.specs.declared.registers.Background.{Background}

-- the bits of a pixel by mode and layer; 0 where the mode has no such layer
--   mode   0        1      2    3    4    5    6
--   bits   2 2 2 2  4 4 2  4 4  8 4  8 2  4 2  4
abbrev pub by_layer : ℕ → ℕ → ℕ → ℕ → ℕ → ℕ
by_layer layer first second third fourth =
    if layer == 1 then first
    else if layer == 2 then second
    else if layer == 3 then third
    else if layer == 4 then fourth
    else 0

unfoldable pub depth_of : ℕ → ℕ → ℕ
depth_of mode layer =
    if mode == 0 then by_layer layer 2 2 2 2
    else if mode == 1 then by_layer layer 4 4 2 0
    else if mode == 2 then by_layer layer 4 4 0 0
    else if mode == 3 then by_layer layer 8 4 0 0
    else if mode == 4 then by_layer layer 8 2 0 0
    else if mode == 5 then by_layer layer 4 2 0 0
    else if mode == 6 then by_layer layer 4 0 0 0
    else 0

-- modes 5 and 6 have 512 dots a row
abbrev pub is_hires : ℕ → Bool
is_hires mode = (mode == 5) || (mode == 6)

-- modes 2, 4 and 6 have scrolls for each column of tiles in the map of BG3
abbrev pub has_offsets : ℕ → Bool
has_offsets mode = (mode == 2) || (mode == 4) || (mode == 6)

-- tiles are 8 or 16 pixels wide and high; in modes 5 and 6 always 16 wide
abbrev pub tile_width : ℕ → Background → ℕ
tile_width mode b = if is_hires mode || b.large then 16 else 8

abbrev pub tile_height : Background → ℕ
tile_height b = if b.large then 16 else 8
