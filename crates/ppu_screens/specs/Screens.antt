-- What stands in front on the main and on the sub screen, and the 512 dots of a row (2100, 212C to 2133; nocash
-- fullsnes, "SNES PPU Color-Math", "SNES PPU Resolution").
use Rattle.std.specs.Prelude.{ℕ, ◌==◌, Bool, not, ◌&&◌, ◌||◌, slice_index, if◌then◌else◌}
use Rattle.snes_defs.specs.declared.profile.Profile.{Profile}
use Rattle.snes_defs.specs.declared.profile.Profile.TheVariants.{First, Second}
use Rattle.ppu_regs.specs.declared.registers.Registers.{Registers}
use Rattle.ppu_regs.specs.declared.dots.RankedRow.{RankedRow}
use Rattle.ppu_regs.specs.Picture.{Picture, screens_of}
use Rattle.scanline_ops.specs.RankedPixels.{RankedPixel, is_named, is_found}
use Rattle.scanline_ops.specs.Colours.{pixel_colour, dimmed}
use Rattle.color_window.specs.Windows.{is_inside}
use Rattle.color_window.specs.Mixing.{mixed, fixed_colour}
use Rattle.ppu_screens.specs.Order.{layer_rank}

-- the ranked pixel of two planes at the pixel x
abbrev pub ranked_pixel_at : RankedRow → ℕ → RankedPixel
ranked_pixel_at planes x = record { key = slice_index planes.ranks x; number = slice_index planes.numbers x }

-- A layer's ranked pixel as a screen sees it: nothing where the layer isn't on, or is masked and the pixel lies in its
-- windows.
unfoldable pub standing : Bool → Bool → Bool → RankedPixel → RankedPixel
standing on masked inside ranked_pixel = record {
  key = if on && not (masked && inside) then ranked_pixel.key else 0;
  number = ranked_pixel.number;
}

-- a layer's ranked pixel on the main and on the sub screen at the pixel x
unfoldable pub on_main : Registers → ℕ → ℕ → RankedPixel → RankedPixel
on_main r layer x ranked_pixel =
    standing (screens_of r layer).main (screens_of r layer).main_masked (is_inside r layer x) ranked_pixel

unfoldable pub on_sub : Registers → ℕ → ℕ → RankedPixel → RankedPixel
on_sub r layer x ranked_pixel =
    standing (screens_of r layer).sub (screens_of r layer).sub_masked (is_inside r layer x) ranked_pixel

-- behind all layers: on the main screen CGRAM 0, which arithmetic takes where 2131 names the backdrop; on the sub
-- screen nothing
unfoldable pub backdrop : Registers → RankedPixel
backdrop r = record { key = if r.colour.backdrop then 8 else 0; number = 0 }

-- Direct colours are those of BG1 in modes 3, 4 and 7, where bit 0 of 2130 is set.
unfoldable pub has_direct : Registers → Bool
has_direct r = r.colour.direct && ((r.mode == 3) || ((r.mode == 4) || (r.mode == 7)))

-- the colour of what is in front
unfoldable pub front_pixel_colour : Picture → RankedPixel → ℕ
front_pixel_colour p ranked_pixel =
    pixel_colour p.cgram (has_direct p.registers) (layer_rank p.registers 1 0) (layer_rank p.registers 1 1)
    ranked_pixel.key ranked_pixel.number

-- the main screen's colour at the pixel x, of what is in front on both screens
unfoldable pub main_colour : Picture → ℕ → RankedPixel → RankedPixel → ℕ
main_colour p x main sub =
    mixed p.registers.colour (is_inside p.registers 6 x) (front_pixel_colour p main) (is_named main.key)
    (is_found sub.key)
    (front_pixel_colour p sub)

-- what an even dot shows where no layer stands on the sub screen: the fixed colour, and CGRAM 0 in the second profile
unfoldable pub empty_colour : Profile → Picture → ℕ
empty_colour First p = fixed_colour p.registers.colour
empty_colour Second p = slice_index p.cgram 0

-- The sub screen's colour as the even dots show it. It is no operand of arithmetic: `mixed` has the fixed colour where
-- no layer stands, in both profiles.
unfoldable pub sub_colour : Picture → RankedPixel → ℕ
sub_colour p sub = if is_found sub.key then front_pixel_colour p sub else empty_colour p.registers.profile p

-- with half dots, and always in modes 5 and 6, the even dots show the sub screen
unfoldable pub is_halved : Registers → Bool
is_halved r = r.settings.half_dots || ((r.mode == 5) || (r.mode == 6))

-- The dots of the pixel x: the even one and the odd one, at the brightness; 0 in forced blank.
unfoldable pub even_dot : Picture → ℕ → RankedPixel → RankedPixel → ℕ
even_dot p x main sub =
    if p.registers.display.blanked then 0
    else dimmed p.registers.display.brightness
    (if is_halved p.registers then sub_colour p sub else main_colour p x main sub)

unfoldable pub odd_dot : Picture → ℕ → RankedPixel → RankedPixel → ℕ
odd_dot p x main sub =
    if p.registers.display.blanked then 0 else dimmed p.registers.display.brightness (main_colour p x main sub)
