-- The slivers of eight pixels that the drawn objects have on a row, and what stands at a pixel.
use Rattle.std.specs.Prelude.{ℕ, zero, suc, ◌+◌, ◌-◌, ◌*◌, ◌/◌, ◌%◌, ◌^◌, ◌==◌, Bool, false, not, ◌||◌, nat_lt, nat_le}
use Rattle.std.specs.Prelude.{List, [], ◌∷◌, ◌++◌, length, take, fold, slice_index, if◌then◌else◌}
use Rattle.snes_defs.specs.declared.profile.Profile.{Profile}
use Rattle.snes_defs.specs.declared.profile.Profile.TheVariants.{First, Second}
use Rattle.ppu_regs.specs.declared.registers.Registers.{Registers}
use Rattle.ppu_regs.specs.declared.registers.ObjectTiles.{ObjectTiles}
use Rattle.ppu_regs.specs.declared.dots.LayerDot.{LayerDot}
use Rattle.ppu_regs.specs.Picture.{Picture}
use Rattle.ppu_objects.specs.declared.objects.Object.{Object}
use Rattle.ppu_objects.specs.declared.slivers.Sliver.{Sliver}
use Rattle.ppu_objects.specs.Objects.{width_of, height_of, line_in, grown, drawn_objects}

-- where a sliver begins, modulo 512, and whether any of its eight pixels lies in the 256 of the row
unfoldable pub sliver_left : Object → ℕ → ℕ
sliver_left o column = (o.x + 8 * column) % 512

unfoldable pub is_on_screen : ℕ → Bool
is_on_screen left = nat_lt left 256 || nat_lt 504 left

-- the slivers on the screen among the first k of an object, left to right
unfoldable pub first_slivers : Object → ℕ → List Sliver
first_slivers o zero = []
first_slivers o (suc k) = grown (is_on_screen (sliver_left o k)) (record { object = o; column = k }) (first_slivers o k)

unfoldable pub slivers_of : ℕ → Object → List Sliver
slivers_of code o = first_slivers o (width_of code o.large / 8)

-- the slivers of some objects, from the last object to the first
unfoldable pub all_slivers : ℕ → List Object → List Sliver
all_slivers code [] = []
all_slivers code (o ∷ os) = all_slivers code os ++ slivers_of code o

-- the first 34 slivers of a row are drawn; more set the time flag
unfoldable pub drawn_slivers : Picture → ℕ → List Sliver
drawn_slivers p row = take 34 (all_slivers p.registers.object_tiles.size (drawn_objects p row))

unfoldable pub passes_time : Picture → ℕ → Bool
passes_time p row = nat_lt 34 (length (all_slivers p.registers.object_tiles.size (drawn_objects p row)))

-- A line of an object that is turned top to bottom. In the first profile the whole object is turned over. In the
-- second its upper square and, if it is taller than wide, its lower one are each turned over in their places.
unfoldable pub turned_line : Profile → ℕ → ℕ → ℕ → ℕ
turned_line First width height line = height - 1 - line
turned_line Second width height line =
    if nat_lt line width then width - 1 - line else width + (width - 1 - (line - width))

-- The line of an object that a row shows and the column of tiles that a sliver shows, after the flips. A flip left
-- to right turns the whole object over.
unfoldable pub shown_line : Profile → ℕ → Object → ℕ → ℕ
shown_line profile code o row =
    if o.flip_y then turned_line profile (width_of code o.large) (height_of code o.large) (line_in o.y row)
    else line_in o.y row

unfoldable pub shown_column : ℕ → Object → ℕ → ℕ
shown_column code o column = if o.flip_x then width_of code o.large / 8 - 1 - column else column

-- The tile to the right is the next low digit, the one below the next high digit, each modulo 16.
unfoldable pub tile_number : ℕ → ℕ → ℕ → ℕ
tile_number tile column line = (tile % 16 + column) % 16 + 16 * ((tile / 16 + line / 8) % 16)

-- the word of VRAM with planes 0 and 1 of a tile's line; planes 2 and 3 are eight words on. Table 1 is (gap + 1) *
-- 1000h words after the base.
unfoldable pub tile_word : ObjectTiles → ℕ → ℕ → ℕ → ℕ
tile_word tiles table tile line =
    (tiles.base + table * (4096 * (tiles.gap + 1)) + 16 * tile + line % 8) % 32768

-- the value of pixel k, from the left, of two words with four planes
unfoldable pub value_of : ℕ → ℕ → ℕ → ℕ
value_of first second k =
    first / 2 ^ (7 - k) % 2 + 2 * (first / 2 ^ (15 - k) % 2) + 4 * (second / 2 ^ (7 - k) % 2)
    + 8 * (second / 2 ^ (15 - k) % 2)

-- the first word of a sliver on a row
unfoldable pub sliver_word : Registers → Object → ℕ → ℕ → ℕ
sliver_word r o column row =
    let line = shown_line r.profile r.object_tiles.size o row in
    tile_word r.object_tiles o.table (tile_number o.tile (shown_column r.object_tiles.size o column) line) line

-- the value of pixel k of a sliver, k from the left on the screen
unfoldable pub pixel_value : List ℕ → Registers → Object → ℕ → ℕ → ℕ → ℕ
pixel_value vram r o column row k =
    value_of (slice_index vram (sliver_word r o column row))
    (slice_index vram ((sliver_word r o column row + 8) % 32768))
    (if o.flip_x then 7 - k else k)

-- nothing
abbrev pub nothing : LayerDot
nothing = record { on = false; priority = 0; number = 0; direct = false; palette = 0; math = false }

-- an object's pixel of a value: colours from 128 on, sixteen a palette; palettes 4 to 7 may take part in colour
-- arithmetic
unfoldable pub object_dot : Object → ℕ → LayerDot
object_dot o value = record {
  on = not (value == 0);
  priority = o.priority % 4;
  number = 128 + 16 * (o.palette % 8) + value;
  direct = false;
  palette = 0;
  math = nat_le 4 o.palette;
}

-- how far right of a sliver's first pixel the pixel x lies, modulo 512: below 8 in the sliver
unfoldable pub offset_in : ℕ → ℕ → ℕ
offset_in left x = (x + 512 - left) % 512

-- what a sliver has at the pixel x of a row
unfoldable pub sliver_layer_dot : Picture → ℕ → Sliver → ℕ → LayerDot
sliver_layer_dot p row sliver x =
    if nat_lt (offset_in (sliver_left sliver.object sliver.column) x) 8
    then object_dot sliver.object
    (pixel_value p.vram p.registers sliver.object sliver.column row
    (offset_in (sliver_left sliver.object sliver.column) x))
    else nothing

-- a sliver drawn over what stands at a pixel: it covers it where its value isn't 0
unfoldable pub painted : Picture → ℕ → ℕ → LayerDot → Sliver → LayerDot
painted p row x under sliver =
    if (sliver_layer_dot p row sliver x).on then sliver_layer_dot p row sliver x else under

-- What stands at the pixel x of a row: the slivers are drawn from the last object to the first, so the earliest object
-- with a value there is seen.
unfoldable pub object_layer_dot : Picture → ℕ → ℕ → LayerDot
object_layer_dot p row x = fold (painted p row x) nothing (drawn_slivers p row)
