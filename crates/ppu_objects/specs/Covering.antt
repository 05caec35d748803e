-- How a sliver of eight pixels is laid over a row; words for the steps below `obj_row` and `obj_planes`.
use Rattle.std.specs.Prelude.{ℕ, ◌+◌, ◌-◌, ◌==◌, Bool, false, not, ◌&&◌, nat_lt, nat_le, List, slice_index}
use Rattle.ppu_regs.specs.Picture.{Picture}
use Rattle.ppu_objects.specs.declared.slivers.Sliver.{Sliver}
use Rattle.ppu_objects.specs.Slivers.{pixel_value}

-- whether one of the eight bytes from `from` on, laid at `at`, isn't 0 and lies at the place x
unfoldable pub covers : List ℕ → ℕ → ℕ → ℕ → Bool
covers lines from at x = nat_le at x && (nat_lt x (at + 8) && not (slice_index lines (from + (x - at)) == 0))

-- the value of pixel k of a sliver on a row
unfoldable pub sliver_pixel : Picture → ℕ → Sliver → ℕ → ℕ
sliver_pixel p row sliver k = pixel_value p.vram p.registers sliver.object sliver.column row k

-- a sliver at places where no list has one
abbrev pub no_sliver : Sliver
no_sliver = record {
  object = record {
    x = 0;
    y = 0;
    tile = 0;
    flip_y = false;
    flip_x = false;
    priority = 0;
    palette = 0;
    table = 0;
    large = false;
  };
  column = 0;
}
