-- The plane of mode 7: the words of VRAM of a pixel. After fullsnes ("SNES PPU Rotation/Scaling"). Numbers are modulo 2 ^ 32, a negative
-- one as its complement.
use Rattle.std.specs.Prelude.{ℕ, ◌+◌, ◌-◌, ◌*◌, ◌/◌, ◌%◌, ◌^◌, Bool, ◌||◌, ◌==◌, nat_lt, nat_le, if◌then◌else◌}
use Rattle.lint_rules.specs.declared.turned.Turned.{Turned}

abbrev pub sum_of : ℕ → ℕ → ℕ
sum_of a b = (a + b) % 2 ^ 32

abbrev pub difference_of : ℕ → ℕ → ℕ
difference_of a b = (a + (2 ^ 32 - b)) % 2 ^ 32

abbrev pub product_of : ℕ → ℕ → ℕ
product_of a b = a * b % 2 ^ 32

-- the low 13 bits, and all 16, as signed numbers
unfoldable pub signed_13 : ℕ → ℕ
signed_13 v = if nat_lt (v % 8192) 4096 then v % 8192 else v % 8192 + (2 ^ 32 - 8192)

unfoldable pub signed_16 : ℕ → ℕ
signed_16 v = if nat_lt v 32768 then v else v + (2 ^ 32 - 65536)

-- a difference of two 13-bit numbers, cut to ten bits below its sign, which is bit 13
unfoldable pub clipped : ℕ → ℕ
clipped n = if n / 8192 % 2 == 1 then n % 1024 + (2 ^ 32 - 1024) else n % 1024

unfoldable pub distance : ℕ → ℕ → ℕ
distance scroll centre = clipped (difference_of (signed_13 scroll) (signed_13 centre))

-- a product without its low six bits
unfoldable pub trimmed : ℕ → ℕ → ℕ
trimmed a b = product_of a b / 64 * 64

-- where the pixel in column x of line y lies, across or down, in 256ths of a pixel: `across` and `along` are A and B for the column, C
-- and D for the row, p and q the distances of the scrolls from the centre
unfoldable pub place_of : ℕ → ℕ → ℕ → ℕ → ℕ → ℕ → ℕ → ℕ
place_of across along p q centre x y =
    sum_of (sum_of (sum_of (trimmed across p) (trimmed along q)) (sum_of (trimmed along y) (product_of 256 centre))) (product_of across x)

unfoldable pub place_across : Turned → ℕ → ℕ → ℕ
place_across t x y =
    place_of (signed_16 t.a) (signed_16 t.b) (distance t.scroll_x t.center_x) (distance t.scroll_y t.center_y) (signed_13 t.center_x) x y

unfoldable pub place_down : Turned → ℕ → ℕ → ℕ
place_down t x y =
    place_of (signed_16 t.c) (signed_16 t.d) (distance t.scroll_x t.center_x) (distance t.scroll_y t.center_y) (signed_13 t.center_y) x y

-- a place is outside if it isn't in the plane's 1,024 pixels of 256 parts
abbrev pub is_outside : ℕ → ℕ → Bool
is_outside across down = nat_le 262144 across || nat_le 262144 down

abbrev pub pixel_of : ℕ → ℕ
pixel_of place = place / 256 % 1024

-- the word whose low byte is the tile: the map has 128 by 128
abbrev pub turned_map_word : ℕ → ℕ → ℕ
turned_map_word across down = 128 * (pixel_of down / 8) + pixel_of across / 8

-- the word whose high byte is the pixel: a tile has 64
abbrev pub turned_tile_word : ℕ → ℕ → ℕ → ℕ
turned_tile_word tile across down = 64 * tile + 8 * (pixel_of down % 8) + pixel_of across % 8
