-- What stands at one pixel of a screen, in two numbers, and which of two stands in front.
use Rattle.std.specs.Prelude.{ℕ, zero, suc, ◌/◌, ◌%◌, ◌==◌, Bool, false, ◌||◌, nat_lt, List, slice_index, if◌then◌else◌}

-- A ranked pixel's key has in bits 7-4 its rank (0 nothing, else the greater the nearer to the front), in bit 3 whether
-- colour arithmetic is named for it, and in bits 2-0 the palette bits of a direct colour. Its number is that of a
-- colour in CGRAM, or the eight bits of a direct colour.
pub record RankedPixel : Type 0 where
  pub key : ℕ
  pub number : ℕ

-- nothing
abbrev pub no_pixel : RankedPixel
no_pixel = record { key = 0; number = 0 }

abbrev pub rank_of : ℕ → ℕ
rank_of key = key / 16

abbrev pub is_named : ℕ → Bool
is_named key = key / 8 % 2 == 1

abbrev pub tint_of : ℕ → ℕ
tint_of key = key % 8

-- a ranked pixel's key as a screen sees it: none where a mask (0 or 255) hides it
unfoldable pub seen_key : ℕ → ℕ → ℕ
seen_key hidden key = if hidden == 0 then key else 0

-- whether a second key stands nearer to the front than a first
unfoldable pub is_nearer : ℕ → ℕ → Bool
is_nearer first second = nat_lt (rank_of first) (rank_of second)

-- one of two numbers
unfoldable pub chosen : Bool → ℕ → ℕ → ℕ
chosen which taken other = if which then taken else other

-- the nearer of two ranked pixels, the first where they stand alike
unfoldable pub nearest : RankedPixel → RankedPixel → RankedPixel
nearest first second = record {
  key = chosen (is_nearer first.key second.key) second.key first.key;
  number = chosen (is_nearer first.key second.key) second.number first.number;
}

-- a ranked pixel behind a mask
unfoldable pub seen : ℕ → RankedPixel → RankedPixel
seen hidden ranked_pixel = record { key = seen_key hidden ranked_pixel.key; number = ranked_pixel.number }

-- whether a ranked pixel with this key stands on the screen at all
unfoldable pub is_found : ℕ → Bool
is_found key = nat_lt 0 (rank_of key)

-- whether arithmetic is named for any of the first n ranked pixels with these keys
unfoldable pub is_any_named : List ℕ → ℕ → Bool
is_any_named keys zero = false
is_any_named keys (suc n) = is_any_named keys n || is_named (slice_index keys n)
