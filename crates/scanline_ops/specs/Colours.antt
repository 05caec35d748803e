-- Colours of 15 bits (0bbbbbgg gggrrrrr), colour arithmetic and brightness (nocash fullsnes, "SNES PPU Color-Math").
use Rattle.std.specs.Prelude.{ℕ, ◌+◌, ◌-◌, ◌*◌, ◌/◌, ◌%◌, ◌==◌, Bool, ◌&&◌, ◌||◌, List, slice_index, min, if◌then◌else◌}
use Rattle.scanline_ops.specs.RankedPixels.{rank_of, tint_of, is_found}

-- red, green and blue, five bits each
abbrev pub red_of : ℕ → ℕ
red_of colour = colour % 32

abbrev pub green_of : ℕ → ℕ
green_of colour = colour / 32 % 32

abbrev pub blue_of : ℕ → ℕ
blue_of colour = colour / 1024 % 32

abbrev pub colour_of : ℕ → ℕ → ℕ → ℕ
colour_of red green blue = red + 32 * green + 1024 * blue

-- A component with another: their sum or difference, not below 0, then halved where that is so, downwards, and at most
-- 31.
unfoldable pub component_with : Bool → Bool → ℕ → ℕ → ℕ
component_with subtracts halves one two =
    min 31 ((if subtracts then one - two else one + two) / (if halves then 2 else 1))

-- a colour with another, component by component
unfoldable pub colour_with : Bool → Bool → ℕ → ℕ → ℕ
colour_with subtracts halves one two =
    colour_of
    (component_with subtracts halves (red_of one) (red_of two))
    (component_with subtracts halves (green_of one) (green_of two))
    (component_with subtracts halves (blue_of one) (blue_of two))

-- a component at a brightness of 0 to 15: 0 is black, else so many sixteenths and one, rounded down
abbrev pub dimmed_component : ℕ → ℕ → ℕ
dimmed_component brightness component = if brightness == 0 then 0 else component * (brightness + 1) / 16

-- a colour at a brightness
unfoldable pub dimmed : ℕ → ℕ → ℕ
dimmed brightness colour =
    colour_of (dimmed_component brightness (red_of colour)) (dimmed_component brightness (green_of colour))
    (dimmed_component brightness (blue_of colour))

-- a direct colour: the byte is BBGGGRRR, the tint has one more bit of blue, green and red (bits 2, 1, 0)
unfoldable pub direct_colour : ℕ → ℕ → ℕ
direct_colour byte tint =
    colour_of (byte % 8 * 4 + tint % 2 * 2) (byte / 8 % 8 * 4 + tint / 2 % 2 * 2) (byte / 64 % 4 * 8 + tint / 4 % 2 * 4)

-- The colour of a ranked pixel, by CGRAM; direct where it has one of the two ranks of a layer with direct
-- colours.
unfoldable pub pixel_colour : List ℕ → Bool → ℕ → ℕ → ℕ → ℕ → ℕ
pixel_colour cgram is_direct low high key number =
    if is_direct && (is_found key && ((rank_of key == low) || (rank_of key == high)))
    then direct_colour number (tint_of key)
    else slice_index cgram number
