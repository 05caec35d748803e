-- Which layer stands in front of which, by mode (2105, 2133; Super Nintendo Development Manual, "BG and OBJ priority";
-- nocash fullsnes, "SNES PPU Background Priority").
use Rattle.std.specs.Prelude.{ℕ, ◌+◌, ◌*◌, ◌==◌, Bool, ◌&&◌, List, [], ◌∷◌, length, if◌then◌else◌}
use Rattle.ppu_regs.specs.declared.registers.Registers.{Registers}

-- a layer, 1 to 4 for BG1 to BG4 or 5 for the objects, with one of its priorities
pub record Place : Type 0 where
  pub layer : ℕ
  pub priority : ℕ

-- objects of a priority; a background's dots with priority, and those without
abbrev pub objects : ℕ → Place
objects priority = record { layer = 5; priority = priority }

abbrev pub high : ℕ → Place
high layer = record { layer = layer; priority = 1 }

abbrev pub low : ℕ → Place
low layer = record { layer = layer; priority = 0 }

-- each mode's layers, front to back
abbrev pub order_0 : List Place
order_0 =
    objects 3 ∷ high 1 ∷ high 2 ∷ objects 2 ∷ low 1 ∷ low 2 ∷ objects 1 ∷ high 3 ∷ high 4 ∷ objects 0 ∷ low 3 ∷
    low 4 ∷ []

abbrev pub order_1 : List Place
order_1 = objects 3 ∷ high 1 ∷ high 2 ∷ objects 2 ∷ low 1 ∷ low 2 ∷ objects 1 ∷ high 3 ∷ objects 0 ∷ low 3 ∷ []

-- mode 1 where bit 3 of 2105 puts BG3's dots with priority in front of all
abbrev pub order_1_front : List Place
order_1_front = high 3 ∷ objects 3 ∷ high 1 ∷ high 2 ∷ objects 2 ∷ low 1 ∷ low 2 ∷ objects 1 ∷ objects 0 ∷ low 3 ∷ []

-- modes 2 to 6
abbrev pub order_2 : List Place
order_2 = objects 3 ∷ high 1 ∷ objects 2 ∷ high 2 ∷ objects 1 ∷ low 1 ∷ objects 0 ∷ low 2 ∷ []

abbrev pub order_7 : List Place
order_7 = objects 3 ∷ objects 2 ∷ objects 1 ∷ low 1 ∷ objects 0 ∷ []

-- mode 7 with the second layer of EXTBG
abbrev pub order_7_second : List Place
order_7_second = objects 3 ∷ objects 2 ∷ high 2 ∷ objects 1 ∷ low 1 ∷ objects 0 ∷ low 2 ∷ []

abbrev pub order_of : ℕ → Bool → Bool → List Place
order_of mode bg3_front extbg =
    if mode == 0 then order_0
    else (if mode == 1 then (if bg3_front then order_1_front else order_1)
    else (if mode == 7 then (if extbg then order_7_second else order_7)
    else order_2))

-- the rank of a layer's priority in an order: the last has 1, the one before 2, and so on; 0 where it isn't in the
-- order
abbrev pub rank_in : List Place → ℕ → ℕ → ℕ
rank_in [] layer priority = 0
rank_in (place ∷ rest) layer priority =
    if (place.layer == layer) && (place.priority == priority) then length rest + 1 else rank_in rest layer priority

unfoldable pub rank_at : ℕ → Bool → Bool → ℕ → ℕ → ℕ
rank_at mode bg3_front extbg layer priority = rank_in (order_of mode bg3_front extbg) layer priority

-- the rank of a layer's priority by the registers
unfoldable pub layer_rank : Registers → ℕ → ℕ → ℕ
layer_rank r layer priority = rank_at r.mode r.bg3_front r.settings.extbg layer priority

-- the rank byte of a layer's priority: its rank, and bit 3 where it is named for arithmetic
unfoldable pub rank_base : ℕ → Bool → ℕ
rank_base rank named = 16 * rank + (if named then 8 else 0)
