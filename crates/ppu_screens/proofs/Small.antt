-- What both screens show are colours of 15 bits.
use Rattle.std.proofs.Common.{ℕ, ◌/◌, ◌%◌, ◌<◌, Bool, true, false, List, slice_index, if◌then◌else◌, arith}
use Rattle.snes_defs.specs.declared.profile.Profile.{Profile}
use Rattle.snes_defs.specs.declared.profile.Profile.TheVariants.{First, Second}
use Rattle.ppu_regs.specs.declared.registers.ColourMath.{ColourMath}
use Rattle.ppu_regs.specs.Picture.{Picture, IsInRange}
use Rattle.color_window.specs.Mixing.{fixed_colour, mixed}
use Rattle.scanline_ops.specs.RankedPixels.{RankedPixel}
use Rattle.scanline_ops.specs.Colours.{colour_with, component_with, direct_colour, pixel_colour}
use Rattle.ppu_screens.specs.Screens.{front_pixel_colour, main_colour, empty_colour, sub_colour}

-- one of two small colours
either_small : (b : Bool) (one two : ℕ) → one < 32768 → two < 32768 → (if b then one else two) < 32768
either_small true one two h k = h
either_small false one two h k = k

direct_small : (byte tint : ℕ) → direct_colour byte tint < 32768
unfolding direct_colour
direct_small byte tint = omega arith

pixel_small : (cgram : List ℕ) (direct : Bool) (low high key number : ℕ) → ((k : ℕ) → slice_index cgram k < 32768) →
    pixel_colour cgram direct low high key number < 32768
unfolding pixel_colour
pixel_small cgram direct low high key number small = either_small _ _ _ (direct_small _ _) (small number)

component_small : (subtracts halves : Bool) (one two : ℕ) → component_with subtracts halves one two < 32
unfolding component_with
component_small subtracts halves one two = omega arith

joined_small : (subtracts halves : Bool) (one two : ℕ) → colour_with subtracts halves one two < 32768
unfolding colour_with
joined_small subtracts halves one two =
    omega (
      arith,
      component_small subtracts halves (one % 32) (two % 32),
      component_small subtracts halves (one / 32 % 32) (two / 32 % 32),
      component_small subtracts halves (one / 1024 % 32) (two / 1024 % 32),
    )

mixed_small : (m : ColourMath) (inside : Bool) (main : ℕ) (named found : Bool) (sub : ℕ) → main < 32768 →
    mixed m inside main named found sub < 32768
unfolding mixed
mixed_small m inside main named found sub small =
    let black : 0 < 32768 = omega arith in
    either_small _ _ _ (joined_small _ _ _ _) (either_small _ _ _ black small)

fixed_small : (m : ColourMath) → m.red < 32 → m.green < 32 → m.blue < 32 → fixed_colour m < 32768
unfolding fixed_colour
fixed_small m red green blue = omega (arith, red, green, blue)

front_small : (p : Picture) (front : RankedPixel) → IsInRange p → front_pixel_colour p front < 32768
unfolding front_pixel_colour
front_small p front h = pixel_small p.cgram _ _ _ front.key front.number h.colours

pub main_is_small : (p : Picture) (x : ℕ) (main sub : RankedPixel) → IsInRange p → main_colour p x main sub < 32768
unfolding main_colour
main_is_small p x main sub h = mixed_small p.registers.colour _ (front_pixel_colour p main) _ _ _ (front_small p main h)

empty_small : (profile : Profile) (p : Picture) → IsInRange p → empty_colour profile p < 32768
unfolding empty_colour
empty_small First p h = fixed_small p.registers.colour h.registers.red h.registers.green h.registers.blue
empty_small Second p h = h.colours 0

pub sub_is_small : (p : Picture) (sub : RankedPixel) → IsInRange p → sub_colour p sub < 32768
unfolding sub_colour
sub_is_small p sub h =
    either_small _ _ _ (front_small p sub h) (empty_small p.registers.profile p h)

pub ruleset main_small = main_is_small

pub ruleset both_small = (main_is_small, sub_is_small)
