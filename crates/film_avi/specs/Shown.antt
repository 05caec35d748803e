-- A frame as an AVI file holds it: from the bottom row up, each row twice, red and blue in each other's place.
use Rattle.std.specs.Prelude.{ℕ, zero, suc, ◌+◌, ◌-◌, ◌*◌, ◌/◌, ◌%◌, List, [], ◌++◌}
use Rattle.film_formats.specs.Numbers.{little2}
use Rattle.film_formats.specs.Colours.{dot_at}
use Rattle.film_formats.specs.Pictures.{frame_row}

-- a dot with its red in the high five bits and its blue in the low five
abbrev pub turned : ℕ → ℕ
turned dot = 1024 * (dot % 32) + 32 * (dot / 32 % 32) + dot / 1024 % 32

-- the first dots of a row
unfoldable pub turned_row : List ℕ → ℕ → List ℕ
turned_row row zero = []
turned_row row (suc columns) = turned_row row columns ++ little2 (turned (dot_at row columns))

-- the lowest rows of the picture
unfoldable pub turned_rows : List ℕ → ℕ → List ℕ
turned_rows frame zero = []
turned_rows frame (suc rows) = turned_rows frame rows ++ turned_row (frame_row frame ((477 - rows) / 2)) 512
