-- What doesn't change along a row of mode 7, and the steps from a place of the plane to its value; words for what
-- stands below `rotated_row` and `rotated_planes`.
use Rattle.std.specs.Prelude.{◌≡◌, ℕ, ◌+◌, ◌*◌, ◌/◌, ◌%◌, ◌==◌, Bool, ◌||◌, if◌then◌else◌}
use Rattle.ppu_regs.specs.declared.registers.Registers.{Registers}
use Rattle.ppu_regs.specs.Dots.{rank_of}
use Rattle.ppu_mode7.specs.declared.places.Line.{Line}
use Rattle.ppu_mode7.specs.Rotated.{start_x, start_y, signed_16, line_of, pixel_of, is_outside, layer_dot_of}

-- the numbers of a line are those of a layer's row
pub record IsLine (r : Registers) (layer row : ℕ) (line : Line) : Type 0 where
  pub start_x : line.start_x ≡ start_x r.rotation (line_of r layer row)
  pub start_y : line.start_y ≡ start_y r.rotation (line_of r layer row)
  pub a : line.a ≡ signed_16 r.rotation.a
  pub c : line.c ≡ signed_16 r.rotation.c

-- the word of the map at a place, and the pixel of its tile
unfoldable pub map_word : ℕ → ℕ → ℕ
map_word x y = 128 * (pixel_of y / 8) + pixel_of x / 8

unfoldable pub fine_of : ℕ → ℕ → ℕ
fine_of x y = 8 * (pixel_of y % 8) + pixel_of x % 8

-- 1 at a place outside of the plane
unfoldable pub outside_mark : ℕ → ℕ → ℕ
outside_mark x y = if is_outside x || is_outside y then 1 else 0

-- the byte of a value in the plane of ranks
unfoldable pub rank_at : Bool → ℕ → ℕ → ℕ → ℕ → ℕ
rank_at is_direct layer low high value =
    rank_of (if (layer_dot_of is_direct layer value).priority == 1 then high else low)
    (layer_dot_of is_direct layer value)
