-- The main screen's colour at a pixel before brightness (2130 to 2132; nocash fullsnes, "SNES PPU Color-Math").
use Rattle.std.specs.Prelude.{ℕ, Bool, true, false, not, ◌&&◌, ◌||◌, List, slice_index, Option, None, Some, is_some}
use Rattle.std.specs.Prelude.{if◌then◌else◌}
use Rattle.ppu_regs.specs.declared.registers.Registers.{Registers}
use Rattle.ppu_regs.specs.declared.dots.Dot.{Dot}
use Rattle.ppu_regs.specs.Picture.{Picture, screens_of}
use Rattle.ppu_regs.specs.declared.registers.ColourMath.{ColourMath}
use Rattle.ppu_regs.specs.declared.registers.WindowPart.{WindowPart}
use Rattle.ppu_regs.specs.declared.registers.WindowPart.TheVariants.{Never, Outside, Inside, Always}
use Rattle.scanline_ops.specs.Colours.{colour_of, colour_with}
use Rattle.color_window.specs.Windows.{is_inside}

-- whether something holds at a pixel, by where it holds and whether the pixel lies in the colour window
unfoldable pub holds_at : WindowPart → Bool → Bool
holds_at Never inside = false
holds_at Outside inside = not inside
holds_at Inside inside = inside
holds_at Always inside = true

-- the colour of 2132
unfoldable pub fixed_colour : ColourMath → ℕ
fixed_colour m = colour_of m.red m.green m.blue

-- The main screen's colour: `inside` says whether the pixel lies in the colour window, `main` is the colour of the
-- front, `named` whether 2131 names the front, `found` whether the sub screen has anything there, `sub` its colour. It
-- isn't halved where main was made black, nor where the sub screen was asked for and has nothing.
unfoldable pub mixed : ColourMath → Bool → ℕ → Bool → Bool → ℕ → ℕ
mixed m inside main named found sub =
    let black : Bool = holds_at m.black inside in
    let base : ℕ = if black then 0 else main in
    let other : ℕ = if m.sub_screen && found then sub else fixed_colour m in
    let halves : Bool = m.halve && not black && (not m.sub_screen || found) in
    if named && not (holds_at m.none inside) then colour_with m.subtract halves base other else base

-- whether a pixel takes part in arithmetic: 2131 names its front, and the colour window doesn't stop it there
unfoldable pub is_mixed : ColourMath → Bool → Bool → Bool
is_mixed m inside named = named && not (holds_at m.none inside)

-- whether 2131 names what is in front: its layer and the dot itself, or the backdrop where nothing is
abbrev pub is_front_named : Registers → Option (ℕ × Dot) → Bool
is_front_named r None = r.colour.backdrop
is_front_named r (Some front) = (screens_of r front.0).arithmetic && front.1.math

-- the colour in front: that of the dot, or the backdrop's, the first of CGRAM
abbrev pub front_colour : List ℕ → Option (ℕ × Dot) → ℕ
front_colour cgram None = slice_index cgram 0
front_colour cgram (Some front) = front.1.colour

abbrev pub dot_colour : Option Dot → ℕ
dot_colour None = 0
dot_colour (Some dot) = dot.colour

-- the main screen's colour at the pixel x, of the layer (1 to 4, or 5 for the objects) and dot in front on the main
-- screen, and the dot in front on the sub screen
unfoldable pub mixed_at : Picture → ℕ → Option (ℕ × Dot) → Option Dot → ℕ
mixed_at p x front sub =
    mixed p.registers.colour (is_inside p.registers 6 x) (front_colour p.cgram front) (is_front_named p.registers front)
    (is_some sub) (dot_colour sub)
