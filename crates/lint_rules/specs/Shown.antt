-- Which words of VRAM and which colours a line of the picture is drawn from. After fullsnes ("SNES PPU Video Memory (VRAM)", "SNES PPU
-- Offset-Per-Tile Mode", 2107h BG1SC, 210Bh BG12NBA, 2121h CGADD). Pixels are those of the map: in modes 5 and 6 two for each of the 256.
use Rattle.std.specs.Prelude.{ℕ, ◌+◌, ◌-◌, ◌*◌, ◌/◌, ◌%◌, Option, Some, None, Bool, ◌||◌, ◌==◌, List, slice_index, if◌then◌else◌}
use Rattle.lint_rules.specs.declared.shown.Depth.{Depth}
use Rattle.lint_rules.specs.declared.shown.Depth.TheVariants.{Two, Four, Eight}
use Rattle.lint_rules.specs.declared.shown.Plane.{Plane}
use Rattle.lint_rules.specs.declared.shown.Scroll.{Scroll}

-- the words of a line of a tile: two planes each
abbrev pub words_of : Depth → ℕ
words_of Two = 1
words_of Four = 2
words_of Eight = 4

abbrev pub by_layer : ℕ → Option Depth → Option Depth → Option Depth → Option Depth → Option Depth
by_layer layer first second third fourth =
    if layer == 0 then first else if layer == 1 then second else if layer == 2 then third else if layer == 3 then fourth else None

-- the bits a pixel of a background, from 0, in a mode
abbrev pub depth_at : ℕ → ℕ → Option Depth
depth_at mode layer =
    if mode == 0 then by_layer layer (Some Two) (Some Two) (Some Two) (Some Two)
    else if mode == 1 then by_layer layer (Some Four) (Some Four) (Some Two) None
    else if mode == 2 then by_layer layer (Some Four) (Some Four) None None
    else if mode == 3 then by_layer layer (Some Eight) (Some Four) None None
    else if mode == 4 then by_layer layer (Some Eight) (Some Two) None None
    else if mode == 5 then by_layer layer (Some Four) (Some Two) None None
    else if mode == 6 then by_layer layer (Some Four) None None None
    else None

abbrev pub side_of : Bool → ℕ
side_of is_large = if is_large then 16 else 8

-- the place in a tile, counted from the other end if it is turned over
abbrev pub turned : Bool → ℕ → ℕ → ℕ
turned flip side n = if flip then side - 1 - n % side else n % side

-- the word with the entry of a column and a row of the map: 32 by 32 entries a screen, the second screen to the right in a wide map, and
-- the next one or two below in a tall map
abbrev pub entry_word : Plane → ℕ → ℕ → ℕ
entry_word p column row =
    (p.map % 32768 + row % 32 * 32 + column % 32
    + (if p.wide then column / 32 % 2 * 1024 else 0)
    + (if p.tall then row / 32 % 2 * (if p.wide then 2048 else 1024) else 0)) % 32768

abbrev pub map_word : Plane → ℕ → ℕ → ℕ
map_word p x y = entry_word p (x / side_of p.broad) (y / side_of p.high)

-- the tile of 8 by 8 pixels at a place in an entry's tile: the one to the right is the next, the one below the 16th after
abbrev pub tile_at : ℕ → ℕ → ℕ → ℕ
tile_at entry x y = (entry % 1024 + x / 8 + 16 * (y / 8)) % 1024

abbrev pub tile_word : Plane → ℕ → ℕ → ℕ
tile_word p tile y = (p.tiles % 32768 + tile * (8 * words_of p.depth) + y % 8) % 32768

-- the first word of the line of a tile in which a pixel lies, by its entry: bit 15 turns it over from top to bottom, 14 from left to right
abbrev pub line_word_by : Plane → ℕ → ℕ → ℕ → ℕ
line_word_by p entry x y = tile_word p (tile_at entry x y) y

abbrev pub line_word : Plane → ℕ → ℕ → ℕ → ℕ
line_word p entry x y =
    line_word_by p entry (turned (entry / 16384 % 2 == 1) (side_of p.broad) x) (turned (entry / 32768 == 1) (side_of p.high) y)

-- an entry of BG3's map moves BG1 (0) by bit 13, BG2 (1) by bit 14
abbrev pub moves_layer : ℕ → ℕ → Bool
moves_layer layer entry = (if layer == 0 then entry / 8192 % 2 else entry / 16384 % 2) == 1

-- bits 9-3 of it are the scroll across, above the low three bits of the background's own
abbrev pub across_by : Scroll → ℕ → ℕ
across_by own entry = entry / 8 % 128 * 8 + own.across % 8

-- modes 2 and 6 have an entry for each direction, mode 4 has one whose bit 15 says which
abbrev pub moved_by_two : ℕ → Scroll → ℕ → ℕ → Scroll
moved_by_two layer own first second = record {
  across = if moves_layer layer first then across_by own first else own.across;
  down = if moves_layer layer second then second % 1024 else own.down;
}

abbrev pub moved_by_one : ℕ → Scroll → ℕ → Scroll
moved_by_one layer own entry =
    if moves_layer layer entry
    then (if entry / 32768 == 1 then (record own { down = entry % 1024 }) else (record own { across = across_by own entry }))
    else own

abbrev pub moved : ℕ → ℕ → Scroll → ℕ → ℕ → Scroll
moved mode layer own first second =
    if mode == 4 then moved_by_one layer own first
    else if mode == 2 || mode == 6 then moved_by_two layer own first second
    else own

-- the value of the pixel whose bit has a weight, 1 to 128, in two planes: the low byte of a word, and its high byte
abbrev pub of_planes : ℕ → ℕ → ℕ
of_planes word weight = word / weight % 2 + 2 * (word / (256 * weight) % 2)

abbrev pub weight_at : ℕ → ℕ
weight_at k =
    if k % 8 == 0 then 128 else if k % 8 == 1 then 64 else if k % 8 == 2 then 32 else if k % 8 == 3 then 16
    else if k % 8 == 4 then 8 else if k % 8 == 5 then 4 else if k % 8 == 6 then 2 else 1

-- the value of pixel k, from the left, of the words of a line
abbrev pub value_of : List ℕ → ℕ → ℕ
value_of words k =
    of_planes (slice_index words 0) (weight_at k) + 4 * of_planes (slice_index words 1) (weight_at k)
    + 16 * of_planes (slice_index words 2) (weight_at k) + 64 * of_planes (slice_index words 3) (weight_at k)

-- the colour of a value of a background: four a palette, in mode 0 after 32 for each background before; sixteen a palette; or the value.
-- The palette is bits 12-10 of the entry
abbrev pub colour_by : Depth → ℕ → ℕ → ℕ → ℕ
colour_by Two first palette value = (first + 4 * palette + value) % 256
colour_by Four first palette value = (16 * palette + value) % 256
colour_by Eight first palette value = value

abbrev pub colour_of : ℕ → ℕ → Depth → ℕ → ℕ → ℕ
colour_of mode layer depth entry value = colour_by depth (if mode == 0 then 32 * (layer % 4) else 0) (entry / 1024 % 8) value
