-- A LIST OF VOICES, as `0,3,echo`: which lists there are, and the number that a list means.
use Rattle.std.specs.Prelude.{ℕ, ◌+◌, Bool, ◌&&◌, ◌||◌, ◌==◌, nat_le, List, [], ◌∷◌, length, slice_index, codes, Option, Some, None, if◌then◌else◌}
use Rattle.std.specs.List.{list_all, list_any}
use Rattle.std.specs.Str.{bytes_eq}

-- a byte in front of the first item
abbrev pub onto : ℕ → List (List ℕ) → List (List ℕ)
onto byte [] = (byte ∷ []) ∷ []
onto byte (item ∷ others) = (byte ∷ item) ∷ others

-- THE ITEMS between single commas (2C)
unfoldable pub items : List ℕ → List (List ℕ)
items [] = [] ∷ []
items (byte ∷ bytes) = if byte == 0x2C then [] ∷ items bytes else onto byte (items bytes)

-- an item is a part of the sound: one of the voices 0 to 7, or the echo
abbrev pub is_voice : List ℕ → Bool
is_voice item = (length item == 1) && (nat_le 48 (slice_index item 0) && nat_le (slice_index item 0) 55)

abbrev pub is_part : List ℕ → Bool
is_part item = is_voice item || bytes_eq item (codes "echo")

-- THE NUMBER OF A LIST has a bit for each part that an item names: bit n is voice n, bit 8 the echo
abbrev pub bit_of : List (List ℕ) → List ℕ → ℕ → ℕ
bit_of list name bit = if list_any (λ item. bytes_eq item name) list then bit else 0

abbrev pub stem_of : List (List ℕ) → ℕ
stem_of list =
    bit_of list (codes "0") 1 + bit_of list (codes "1") 2 + bit_of list (codes "2") 4 + bit_of list (codes "3") 8
    + bit_of list (codes "4") 16 + bit_of list (codes "5") 32 + bit_of list (codes "6") 64 + bit_of list (codes "7") 128
    + bit_of list (codes "echo") 256

-- the number of a word, if each of its items is a part
unfoldable pub is_stem : List ℕ → Bool
is_stem word = list_all is_part (items word)

unfoldable pub stem_in : List ℕ → Option ℕ
stem_in word = if is_stem word then Some (stem_of (items word)) else None
