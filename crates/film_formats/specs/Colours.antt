-- Colours of 15 bits, as they are shown in 24.
use Rattle.std.specs.Prelude.{ℕ, zero, suc, ◌+◌, ◌*◌, ◌/◌, ◌%◌, List, [], ◌∷◌, ◌++◌, slice_index}
use Rattle.film_formats.specs.declared.colours.Colour.{Colour}

-- a channel of 5 bits in 8: its top three bits are repeated below
abbrev pub widened : ℕ → ℕ
widened channel = 8 * channel + channel / 4

-- red stands in bits 0 to 4, green in 5 to 9, blue in 10 to 14
abbrev pub colour_of : ℕ → Colour
colour_of dot = record {
  red = widened (dot % 32);
  green = widened (dot / 32 % 32);
  blue = widened (dot / 1024 % 32);
}

-- the dot in a row's column: two bytes, low byte first
abbrev pub dot_at : List ℕ → ℕ → ℕ
dot_at row column = slice_index row (2 * column) + 256 * slice_index row (2 * column + 1)

-- red, green and blue
abbrev pub bytes_of : Colour → List ℕ
bytes_of colour = colour.red ∷ (colour.green ∷ (colour.blue ∷ []))

-- the first dots of a row, three bytes each
unfoldable pub shown : List ℕ → ℕ → List ℕ
shown row zero = []
shown row (suc columns) = shown row columns ++ bytes_of (colour_of (dot_at row columns))
