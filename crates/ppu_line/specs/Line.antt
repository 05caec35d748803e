-- A row of the picture, dot by dot: what each layer has there, what stands in front on both screens, and the dot that
-- is shown.
use Rattle.std.specs.Prelude.{ℕ, zero, suc, ◌+◌, ◌*◌, ◌/◌, ◌%◌, ◌==◌, Bool, ◌&&◌, ◌||◌, nat_le, if◌then◌else◌}
use Rattle.ppu_regs.specs.declared.dots.LayerDot.{LayerDot}
use Rattle.ppu_regs.specs.Picture.{Picture, screens_of}
use Rattle.ppu_regs.specs.Dots.{rank_of}
use Rattle.ppu_tiles.specs.Modes.{depth_of}
use Rattle.ppu_tiles.specs.Backgrounds.{background_layer_dot}
use Rattle.ppu_mode7.specs.Rotated.{rotated_layer_dot}
use Rattle.ppu_objects.specs.Slivers.{nothing, object_layer_dot}
use Rattle.scanline_ops.specs.RankedPixels.{RankedPixel, no_pixel, nearest}
use Rattle.ppu_screens.specs.Order.{layer_rank, rank_base}
use Rattle.ppu_screens.specs.Screens.{on_main, on_sub, backdrop, even_dot, odd_dot}

-- whether a mode has a background: BG1, and BG2 where EXTBG's order has it, in mode 7; else where it has 2, 4 or 8 bits
-- a pixel
abbrev pub has_depth : ℕ → Bool
has_depth depth = (depth == 2) || (depth == 4) || (depth == 8)

unfoldable pub has_background : ℕ → ℕ → Bool
has_background mode layer = if mode == 7 then nat_le layer 2 else has_depth (depth_of mode layer)

-- what a background has at the dot e of a row
unfoldable pub plane_layer_dot : Picture → ℕ → ℕ → ℕ → LayerDot
plane_layer_dot p layer row e =
    if p.registers.mode == 7 then rotated_layer_dot p layer row (e / 2) else background_layer_dot p layer row e

-- what a layer has at the dot e, 0 to 511, of a row: 1 to 4 for BG1 to BG4, 5 for the objects
unfoldable pub any_layer_dot : Picture → ℕ → ℕ → ℕ → LayerDot
any_layer_dot p layer row e =
    if layer == 5 then object_layer_dot p row (e / 2)
    else (if has_background p.registers.mode layer then plane_layer_dot p layer row e else nothing)

-- a layer's dot as a ranked pixel: its rank in the order of the mode, whether 2131 names it, and its colour's number
unfoldable pub ranked_pixel_of : Picture → ℕ → LayerDot → RankedPixel
ranked_pixel_of p layer c = record {
  key = rank_of (rank_base (layer_rank p.registers layer c.priority)
      ((screens_of p.registers layer).arithmetic && c.math)) c;
  number = c.number;
}

-- a layer's ranked pixel on the two screens at the pixel x: the main screen takes the odd dots, the sub screen the even
-- ones
unfoldable pub main_pixel : Picture → ℕ → ℕ → ℕ → RankedPixel
main_pixel p row x layer = on_main p.registers layer x (ranked_pixel_of p layer (any_layer_dot p layer row (2 * x + 1)))

unfoldable pub sub_pixel : Picture → ℕ → ℕ → ℕ → RankedPixel
sub_pixel p row x layer = on_sub p.registers layer x (ranked_pixel_of p layer (any_layer_dot p layer row (2 * x)))

-- the nearest of the first k layers and of what is behind them
unfoldable pub front : (ℕ → RankedPixel) → RankedPixel → ℕ → RankedPixel
front ranked_pixels behind zero = behind
front ranked_pixels behind (suc k) = nearest (front ranked_pixels behind k) (ranked_pixels (suc k))

-- what stands in front at the pixel x of a row
unfoldable pub main_front : Picture → ℕ → ℕ → RankedPixel
main_front p row x = front (main_pixel p row x) (backdrop p.registers) 5

unfoldable pub sub_front : Picture → ℕ → ℕ → RankedPixel
sub_front p row x = front (sub_pixel p row x) no_pixel 5

-- the dot e of a row, 0 to 511
unfoldable pub pixel : Picture → ℕ → ℕ → ℕ
pixel p row e =
    if e % 2 == 0 then even_dot p (e / 2) (main_front p row (e / 2)) (sub_front p row (e / 2))
    else odd_dot p (e / 2) (main_front p row (e / 2)) (sub_front p row (e / 2))
