-- The objects: what OAM says of one, how large it is, and which ones stand on a row (2101 to 2104; nocash
-- fullsnes, "SNES PPU Sprites (OBJs)"). Their slivers, the limit of 34 with its flag, and what stands at a pixel
-- are in `Slivers`.
use Rattle.std.specs.Prelude.{ℕ, zero, suc, ◌+◌, ◌-◌, ◌*◌, ◌/◌, ◌%◌, ◌==◌, Bool, ◌&&◌, ◌||◌, nat_lt, nat_le, List, []}
use Rattle.std.specs.Prelude.{◌∷◌, ◌++◌, length, take, slice_index, if◌then◌else◌}
use Rattle.ppu_regs.specs.Picture.{Picture}
use Rattle.ppu_objects.specs.declared.objects.Object.{Object}

-- one of the four pairs of bits in a byte of OAM's high table
unfoldable pub pair_at : ℕ → ℕ → ℕ
pair_at byte k =
    if k == 0 then byte % 4 else (if k == 1 then byte / 4 % 4 else (if k == 2 then byte / 16 % 4 else byte / 64))

-- Object n: four bytes (X low; Y; tile; attributes: 7 turned over top to bottom, 6 left to right, 5-4 priority, 3-1
-- palette, 0 table) and two bits of the high table (0 X bit 8, 1 large). X has nine bits, the top one its sign.
unfoldable pub object_of : List ℕ → ℕ → Object
object_of oam n = record {
  x = slice_index oam (4 * n) + 256 * (pair_at (slice_index oam (512 + n / 4)) (n % 4) % 2);
  y = slice_index oam (4 * n + 1);
  tile = slice_index oam (4 * n + 2);
  flip_y = slice_index oam (4 * n + 3) / 128 == 1;
  flip_x = slice_index oam (4 * n + 3) / 64 % 2 == 1;
  priority = slice_index oam (4 * n + 3) / 16 % 4;
  palette = slice_index oam (4 * n + 3) / 2 % 8;
  table = slice_index oam (4 * n + 3) % 2;
  large = pair_at (slice_index oam (512 + n / 4)) (n % 4) / 2 == 1;
}

-- the widths and heights of small and large objects, by bits 7-5 of 2101: 8 and 16; 8 and 32; 8 and 64; 16 and 32; 16
-- and 64; 32 and 64; 16 by 32 and 32 by 64; 16 by 32 and 32 by 32
unfoldable pub width_of : ℕ → Bool → ℕ
width_of code large =
    if large
    then (if code == 0 then 16 else (if (code == 2) || ((code == 4) || (code == 5)) then 64 else 32))
    else (if nat_le code 2 then 8 else (if code == 5 then 32 else 16))

unfoldable pub height_of : ℕ → Bool → ℕ
height_of code large =
    if large
    then (if code == 0 then 16 else (if (code == 1) || ((code == 3) || (code == 7)) then 32 else 64))
    else (if nat_le code 2 then 8 else (if nat_le code 4 then 16 else 32))

-- the row's line in an object, counted from its top, modulo 256
unfoldable pub line_in : ℕ → ℕ → ℕ
line_in y row = (row + 256 - y) % 256

-- an object stands on a row where the row lies in its height, and some pixel of it in the 256 of the row
unfoldable pub stands_on : ℕ → Object → ℕ → Bool
stands_on code o row =
    nat_lt (line_in o.y row) (height_of code o.large) && (nat_lt o.x 256 || nat_lt 512 (o.x + width_of code o.large))

-- the first object, 0 or by rotation that of bits 7-1 of the OAM word address, and the others after it in turn
unfoldable pub first_object : Picture → ℕ
first_object p = if p.registers.oam.rotates then p.registers.oam.word / 2 % 128 else 0

unfoldable pub place_in_turn : ℕ → ℕ → ℕ
place_in_turn first k = (first + k) % 128

-- a list with one more element at its end, where that is so
unfoldable pub grown : {A : Type 0} → Bool → A → List A → List A
grown does x xs = if does then xs ++ x ∷ [] else xs

-- the k-th object in turn
unfoldable pub object_in_turn : Picture → ℕ → Object
object_in_turn p k = object_of p.oam (place_in_turn (first_object p) k)

-- the objects that stand on a row among the first k in turn
unfoldable pub on_row : Picture → ℕ → ℕ → List Object
on_row p row zero = []
on_row p row (suc k) =
    grown (stands_on p.registers.object_tiles.size (object_in_turn p k) row) (object_in_turn p k) (on_row p row k)

-- of all that stand on the row the first 32 are drawn; more set the range flag
unfoldable pub drawn_objects : Picture → ℕ → List Object
drawn_objects p row = take 32 (on_row p row 128)

unfoldable pub passes_range : Picture → ℕ → Bool
passes_range p row = nat_lt 32 (length (on_row p row 128))
