-- Rows that are made of two rows: where two films differ, and a small picture.
use Rattle.std.specs.Prelude.{ℕ, zero, suc, ◌+◌, ◌*◌, ◌/◌, ◌==◌, List, [], ◌++◌, if◌then◌else◌}
use Rattle.film_formats.specs.declared.colours.Colour.{Colour}
use Rattle.film_formats.specs.Colours.{colour_of, dot_at, bytes_of}

-- a colour at a quarter of its brightness
abbrev pub dimmed : Colour → Colour
dimmed colour = record { red = colour.red / 4; green = colour.green / 4; blue = colour.blue / 4 }

abbrev pub pure_red : Colour
pure_red = record { red = 255; green = 0; blue = 0 }

-- a dot of the picture of where two films differ: red where they do, else the dot of both, dimmed
abbrev pub marked : ℕ → ℕ → Colour
marked first second = if (first == second) then dimmed (colour_of first) else pure_red

-- the first dots of such a row
unfoldable pub marked_row : List ℕ → List ℕ → ℕ → List ℕ
marked_row first second zero = []
marked_row first second (suc columns) =
    marked_row first second columns ++ bytes_of (marked (dot_at first columns) (dot_at second columns))

-- the sum of a channel over four dots of a row
abbrev pub sum4 : (Colour → ℕ) → List ℕ → ℕ → ℕ
sum4 channel row column =
    channel (colour_of (dot_at row column)) + channel (colour_of (dot_at row (column + 1)))
    + channel (colour_of (dot_at row (column + 2))) + channel (colour_of (dot_at row (column + 3)))

-- the mean colour of eight dots: four in a row and the four below them
abbrev pub mean_of : List ℕ → List ℕ → ℕ → Colour
mean_of upper lower column = record {
  red = (sum4 (λ c. c.red) upper column + sum4 (λ c. c.red) lower column) / 8;
  green = (sum4 (λ c. c.green) upper column + sum4 (λ c. c.green) lower column) / 8;
  blue = (sum4 (λ c. c.blue) upper column + sum4 (λ c. c.blue) lower column) / 8;
}

-- the first dots of a small picture's row
unfoldable pub small_row : List ℕ → List ℕ → ℕ → List ℕ
small_row upper lower zero = []
small_row upper lower (suc columns) = small_row upper lower columns ++ bytes_of (mean_of upper lower (4 * columns))
