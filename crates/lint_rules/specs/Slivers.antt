-- Objects: how large they are, which lines have them, and which words of VRAM their lines are drawn from. After fullsnes (2101h OBSEL,
-- "SNES PPU Sprites (OBJs)"). As in this machine, an object that is turned over is turned as a whole.
use Rattle.std.specs.Prelude.{ℕ, ◌+◌, ◌-◌, ◌*◌, ◌/◌, ◌%◌, Bool, ◌&&◌, ◌||◌, ◌==◌, nat_lt, nat_le, if◌then◌else◌}
use Rattle.lint_rules.specs.declared.objects.Object.{Object}

-- the widths and heights of small and large objects, by bits 7-5 of 2101: 8 and 16; 8 and 32; 8 and 64; 16 and 32; 16 and 64; 32 and 64;
-- 16 by 32 and 32 by 64; 16 by 32 and 32 by 32
abbrev pub width_of : ℕ → Bool → ℕ
width_of size large =
    if large
    then (if size == 0 then 16 else if size == 2 || (size == 4 || size == 5) then 64 else 32)
    else (if nat_le size 2 then 8 else if size == 5 then 32 else 16)

abbrev pub height_of : ℕ → Bool → ℕ
height_of size large =
    if large
    then (if size == 0 then 16 else if size == 1 || (size == 3 || size == 7) then 32 else 64)
    else (if nat_le size 2 then 8 else if nat_le size 4 then 16 else 32)

-- the line of an object on a row, from its top, modulo 256
abbrev pub line_on : Object → ℕ → ℕ
line_on o row = (row % 256 + 256 - o.y) % 256

abbrev pub has_row : Object → ℕ → Bool
has_row o row = nat_lt (line_on o row) (height_of o.size o.large)

-- eight pixels of an object, by their column from its left side: X modulo 512, on the screen if one of them is
abbrev pub left_of : Object → ℕ → ℕ
left_of o column = (o.x + 8 * column) % 512

abbrev pub has_column : Object → ℕ → Bool
has_column o column =
    nat_lt column (width_of o.size o.large / 8) && (nat_lt (left_of o column) 256 || nat_lt 504 (left_of o column))

-- bit 7 of the attributes turns it over from top to bottom, bit 6 from left to right
abbrev pub line_shown : Object → ℕ → ℕ
line_shown o row = if o.attributes / 128 == 1 then height_of o.size o.large - 1 - line_on o row else line_on o row

abbrev pub column_shown : Object → ℕ → ℕ
column_shown o column = if o.attributes / 64 % 2 == 1 then width_of o.size o.large / 8 - 1 - column else column

-- the tile to the right is the next low digit, the one below the next high digit, each modulo 16
abbrev pub object_tile : ℕ → ℕ → ℕ → ℕ
object_tile tile column line = (tile % 16 + column) % 16 + 16 * ((tile / 16 + line / 8) % 16)

-- the first word of a line of a tile; the second is eight words on. The tiles of bit 0 of the attributes begin (gap + 1) * 1000h words
-- after the base
abbrev pub object_word : Object → ℕ → ℕ → ℕ → ℕ → ℕ
object_word o base gap column line =
    (base + o.attributes % 2 * (4096 * (gap + 1)) + 16 * object_tile o.tile column line + line % 8) % 32768

abbrev pub sliver_word : Object → ℕ → ℕ → ℕ → ℕ → ℕ
sliver_word o base gap column row = object_word o base gap (column_shown o column) (line_shown o row)

-- the colour of a value: sixteen a palette, from 128 on
abbrev pub object_colour : Object → ℕ → ℕ
object_colour o value = 128 + 16 * (o.attributes / 2 % 8) + value % 16
