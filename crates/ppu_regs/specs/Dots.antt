-- What a layer has at a dot: a layer dot, its colour, and its bytes in the two planes of a row.
use Rattle.std.specs.Prelude.{ℕ, true, false, ◌+◌, ◌*◌, ◌/◌, ◌%◌, List, slice_index, if◌then◌else◌}
use Rattle.ppu_regs.specs.declared.dots.Dot.{Dot}
use Rattle.ppu_regs.specs.declared.dots.LayerDot.{LayerDot}

-- the dot of a layer that has nothing there
abbrev pub no_dot : Dot
no_dot = record { on = false; prio = 0; colour = 0; math = false }

-- a direct colour of the value BBGGGRRR and a palette: red RRR p0 0, green GGG p1 0, blue BB p2 0 0
-- (Super Nintendo Development Manual, direct select)
unfoldable pub direct_colour_of : ℕ → ℕ → ℕ
direct_colour_of value palette =
    let red = 4 * (value % 8) + 2 * (palette % 2) in
    let green = 4 * (value / 8 % 8) + 2 * (palette / 2 % 2) in
    let blue = 8 * (value / 64) + 4 * (palette / 4) in
    red + 32 * green + 1024 * blue

-- the colour of a layer dot: CGRAM at its number, or a direct one
unfoldable pub colour_of : List ℕ → LayerDot → ℕ
colour_of cgram c = if c.direct then direct_colour_of c.number c.palette else slice_index cgram c.number

-- the dot of a layer dot
unfoldable pub dot_of : List ℕ → LayerDot → Dot
dot_of cgram c =
    if c.on then (record { on = true; prio = c.priority; colour = colour_of cgram c; math = c.math }) else no_dot

-- the byte of a layer dot in the plane of ranks, where `base` is the byte of its layer and priority: its
-- rank in bits 7-4 and whether arithmetic names it in bit 3
unfoldable pub rank_of : ℕ → LayerDot → ℕ
rank_of base c = if c.on then base + c.palette else 0
