-- What the rotated background of mode 7 has at a pixel (211A to 2120, 210D, 210E; this project's own profile after
-- nocash fullsnes, "SNES PPU Rotation/Scaling").
use Rattle.std.specs.Prelude.{ℕ, ◌+◌, ◌-◌, ◌*◌, ◌/◌, ◌%◌, ◌^◌, ◌==◌, Bool, true, false, not, ◌||◌, nat_lt, List}
use Rattle.std.specs.Prelude.{slice_index, if◌then◌else◌}
use Rattle.ppu_regs.specs.declared.registers.Registers.{Registers}
use Rattle.ppu_regs.specs.declared.registers.Rotation.{Rotation}
use Rattle.ppu_regs.specs.declared.registers.Outside.{Outside}
use Rattle.ppu_regs.specs.declared.registers.Outside.TheVariants.{Wrap, Nothing, TileZero}
use Rattle.ppu_regs.specs.declared.dots.LayerDot.{LayerDot}
use Rattle.ppu_regs.specs.Picture.{Picture, background_of}

-- Numbers here are modulo 2 ^ 32, a negative one as its complement. None of them needs more than 28 bits.
abbrev pub sum_of : ℕ → ℕ → ℕ
sum_of a b = (a + b) % 2 ^ 32

abbrev pub difference_of : ℕ → ℕ → ℕ
difference_of a b = (a + (2 ^ 32 - b)) % 2 ^ 32

abbrev pub product_of : ℕ → ℕ → ℕ
product_of a b = a * b % 2 ^ 32

-- the low 13 bits of a register as a signed number
unfoldable pub signed_13 : ℕ → ℕ
signed_13 v = if nat_lt (v % 8192) 4096 then v % 8192 else v % 8192 + (2 ^ 32 - 8192)

-- the 16 bits of a register as a signed number
unfoldable pub signed_16 : ℕ → ℕ
signed_16 v = if nat_lt v 32768 then v else v + (2 ^ 32 - 65536)

-- a difference of two 13-bit numbers, cut to ten bits below its sign, which is bit 13
unfoldable pub clipped : ℕ → ℕ
clipped n = if n / 8192 % 2 == 1 then n % 1024 + (2 ^ 32 - 1024) else n % 1024

-- a number without its low six bits
abbrev pub trimmed : ℕ → ℕ
trimmed n = n / 64 * 64

-- Where the pixel in column x of a line y lies in the plane, in 256ths of a pixel, across or down: `across` and `along`
-- are A and B for the column, C and D for the row, `centre` is CX or CY.
unfoldable pub line_start : ℕ → ℕ → ℕ → ℕ → ℕ → ℕ → ℕ
line_start across along p q y centre =
    sum_of (sum_of (trimmed (product_of across p)) (trimmed (product_of along q)))
    (sum_of (trimmed (product_of along y)) (product_of 256 centre))

unfoldable pub place_at : ℕ → ℕ → ℕ → ℕ
place_at start across x = sum_of start (product_of across x)

-- the clipped distances of the scroll from the centre
unfoldable pub distance : ℕ → ℕ → ℕ
distance scroll centre = clipped (difference_of (signed_13 scroll) (signed_13 centre))

unfoldable pub start_x : Rotation → ℕ → ℕ
start_x r y =
    line_start (signed_16 r.a) (signed_16 r.b) (distance r.scroll_x r.center_x) (distance r.scroll_y r.center_y) y
    (signed_13 r.center_x)

unfoldable pub start_y : Rotation → ℕ → ℕ
start_y r y =
    line_start (signed_16 r.c) (signed_16 r.d) (distance r.scroll_x r.center_x) (distance r.scroll_y r.center_y) y
    (signed_13 r.center_y)

-- a place is outside where it isn't in the plane's 1,024 pixels of 256 parts
abbrev pub is_outside : ℕ → Bool
is_outside place = not (nat_lt place (1024 * 256))

-- the pixel of the plane at a place, which goes on for ever
abbrev pub pixel_of : ℕ → ℕ
pixel_of place = place / 256 % 1024

-- The tile at a pixel of the plane is the low byte of a word of the map, 128 by 128 tiles; a tile's pixels are the high
-- bytes of 64 words.
unfoldable pub tile_at : List ℕ → ℕ → ℕ → ℕ
tile_at vram x y = slice_index vram (128 * (y / 8) + x / 8) % 256

unfoldable pub texel_at : List ℕ → ℕ → ℕ → ℕ → ℕ
texel_at vram tile x y = slice_index vram (64 * tile + 8 * (y % 8) + x % 8) / 256

-- the value at a place of the plane: outside, by bits 7-6 of 211A, the plane again, nothing, or tile 0
unfoldable pub value_at : Outside → List ℕ → ℕ → ℕ → ℕ
value_at Wrap vram x y = texel_at vram (tile_at vram (pixel_of x) (pixel_of y)) (pixel_of x) (pixel_of y)
value_at Nothing vram x y =
    if is_outside x || is_outside y then 0
    else texel_at vram (tile_at vram (pixel_of x) (pixel_of y)) (pixel_of x) (pixel_of y)
value_at TileZero vram x y =
    texel_at vram (if is_outside x || is_outside y then 0 else tile_at vram (pixel_of x) (pixel_of y))
    (pixel_of x) (pixel_of y)

-- a position after mosaic: that of its block's first pixel or row
unfoldable pub blocked : Bool → ℕ → ℕ → ℕ
blocked is_on mosaic n = if is_on then n - n % (mosaic + 1) else n

-- a position after a flip
unfoldable pub turned : Bool → ℕ → ℕ
turned is_flipped n = if is_flipped then 255 - n else n

-- the line and the column that a row and a pixel show: mosaic first, then the flips
unfoldable pub line_of : Registers → ℕ → ℕ → ℕ
line_of r layer row = turned r.rotation.flip_y (blocked (background_of r layer).mosaic r.mosaic row + 1)

unfoldable pub column_of : Registers → ℕ → ℕ → ℕ
column_of r layer x = turned r.rotation.flip_x (blocked (background_of r layer).mosaic r.mosaic x)

-- the value of a layer at the pixel x of a row
unfoldable pub rotated_value : Picture → ℕ → ℕ → ℕ → ℕ
rotated_value p layer row x =
    value_at p.registers.rotation.outside p.vram
    (place_at (start_x p.registers.rotation (line_of p.registers layer row)) (signed_16 p.registers.rotation.a)
    (column_of p.registers layer x))
    (place_at (start_y p.registers.rotation (line_of p.registers layer row)) (signed_16 p.registers.rotation.c)
    (column_of p.registers layer x))

-- Layer 1 shows the whole byte, by CGRAM or as a direct colour. Layer 2, of EXTBG, has bit 7 as its priority and the
-- low seven bits as its colour.
unfoldable pub layer_dot_of : Bool → ℕ → ℕ → LayerDot
layer_dot_of is_direct layer value =
    if layer == 2
    then (record {
      on = not (value % 128 == 0);
      priority = value / 128 % 2;
      number = value % 128;
      direct = false;
      palette = 0;
      math = true;
    })
    else (record { on = not (value == 0); priority = 0; number = value; direct = is_direct; palette = 0; math = true })

-- what a layer of mode 7 has at the pixel x of a row
unfoldable pub rotated_layer_dot : Picture → ℕ → ℕ → ℕ → LayerDot
rotated_layer_dot p layer row x = layer_dot_of p.registers.colour.direct layer (rotated_value p layer row x)
