-- The picture unit: when it takes accesses to its memories, and which registers change the line that is drawn. After fullsnes (2104h,
-- 2118h and 2122h): VRAM and OAM in vertical and in forced blank, CGRAM outside the drawn dots too. That dots are drawn from line clock
-- 88 (dot 22) to 1095 is this project's reading of the dots 22 to 277 there; the end is that of the row here.
use Rattle.std.specs.Prelude.{ℕ, Option, Some, None, Bool, true, false, not, ◌&&◌, ◌||◌, ◌==◌, nat_le, nat_lt, if◌then◌else◌}
use Rattle.lint_rules.specs.declared.moment.Moment.{Moment}
use Rattle.lint_rules.specs.declared.picture.Memory.{Memory}
use Rattle.lint_rules.specs.declared.picture.Memory.TheVariants.{Vram, Cgram, Oam}
use Rattle.lint_rules.specs.declared.rule.Rule.{Rule}
use Rattle.lint_rules.specs.declared.rule.Rule.TheVariants.{VramOutsideBlank, CgramOutsideBlank, OamOutsideBlank, RegisterInsideLine, BlankNearEdge, FieldAndRegionBits}

abbrev pub lies : ℕ → ℕ → ℕ → Bool
lies first last n = nat_le first n && nat_le n last

-- the line at which vertical blank begins
abbrev pub blank_line : Moment → ℕ
blank_line m = if m.overscan then 240 else 225

abbrev pub in_blank : Moment → Bool
in_blank m = nat_le (blank_line m) m.line

-- nothing is drawn
abbrev pub is_blank : Moment → Bool
is_blank m = m.forced || in_blank m

-- the dots of a line are drawn
abbrev pub is_drawn : Moment → Bool
is_drawn m = ((not (is_blank m) && nat_le 1 m.line) && nat_le 88 m.clock) && nat_lt m.clock 1096

-- the memory that a register reads or writes, as an offset from 2100
abbrev pub memory_written : ℕ → Option Memory
memory_written register =
    if register == 0x04 then Some Oam
    else if register == 0x18 || register == 0x19 then Some Vram
    else if register == 0x22 then Some Cgram
    else None

abbrev pub memory_read : ℕ → Option Memory
memory_read register =
    if register == 0x38 then Some Oam
    else if register == 0x39 || register == 0x3a then Some Vram
    else if register == 0x3b then Some Cgram
    else None

abbrev pub memory_at : ℕ → Bool → Option Memory
memory_at register writes = if writes then memory_written register else memory_read register

-- the rule that an access to a memory breaks
abbrev pub memory_broken : Moment → Memory → Option Rule
memory_broken m Vram = if is_blank m then None else Some VramOutsideBlank
memory_broken m Oam = if is_blank m then None else Some OamOutsideBlank
memory_broken m Cgram = if is_drawn m then Some CgramOutsideBlank else None

abbrev pub broken_at : Moment → Option Memory → Option Rule
broken_at m None = None
broken_at m (Some memory) = memory_broken m memory

-- the registers that change what is drawn, as offsets from 2100: all but the ports of the memories. Those of mode 7 from 211B on count
-- only in mode 7, since they serve for products, too
abbrev pub changes_picture : Bool → ℕ → Bool
changes_picture mode7 register =
    ((register == 0 || register == 1) || (lies 0x05 0x14 register || lies 0x23 0x33 register))
    || (register == 0x1a || (mode7 && lies 0x1b 0x20 register))

abbrev pub register_broken : Bool → ℕ → Moment → Option Rule
register_broken mode7 register m =
    if is_drawn m && changes_picture mode7 register then Some RegisterInsideLine else None

-- within 16 dots (64 clocks) of line clock 88 or 1096, in a line of the picture; the number is this project's choice
abbrev pub is_near_edge : Moment → Bool
is_near_edge m =
    (nat_le 1 m.line && not (in_blank m))
    && ((nat_le 24 m.clock && nat_lt m.clock 152) || (nat_le 1032 m.clock && nat_lt m.clock 1160))

-- a write of 2100 changes forced blank there
abbrev pub edge_broken : ℕ → Moment → Option Rule
edge_broken byte m = if is_near_edge m && (if m.forced then nat_lt byte 128 else nat_le 128 byte) then Some BlankNearEdge else None

abbrev pub status_broken : ℕ → Option Rule
status_broken register = if register == 0x3f then Some FieldAndRegionBits else None
