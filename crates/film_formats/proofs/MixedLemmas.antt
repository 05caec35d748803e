-- Rows of two rows, dot by dot.
use Rattle.std.proofs.Common.{◌≡◌, ℕ, ◌+◌, ◌*◌, List, [], ◌++◌, refl, add-one}
use Rattle.film_formats.specs.Colours.{bytes_of, dot_at}
use Rattle.film_formats.specs.Mixed.{marked_row, marked, small_row, mean_of}

pub marked_row-none : (first second : List ℕ) → marked_row first second 0 ≡ []
unfolding marked_row
marked_row-none first second = refl

pub marked_row-more : (first second : List ℕ) (k : ℕ) → marked_row first second (k + 1)
    ≡ marked_row first second k ++ bytes_of (marked (dot_at first k) (dot_at second k))
unfolding marked_row
marked_row-more first second k = rw add-one refl

pub small_row-none : (upper lower : List ℕ) → small_row upper lower 0 ≡ []
unfolding small_row
small_row-none upper lower = refl

pub small_row-more : (upper lower : List ℕ) (k : ℕ) → small_row upper lower (k + 1)
    ≡ small_row upper lower k ++ bytes_of (mean_of upper lower (4 * k))
unfolding small_row
small_row-more upper lower k = rw add-one refl
