-- Frames row by row, and rows dot by dot.
use Rattle.std.proofs.Common.{◌≡◌, ℕ, ◌+◌, ◌-◌, ◌/◌, List, [], ◌++◌, refl, add-one, ap, sym, ◌∙◌}
use Rattle.std.proofs.lemmas.List.{append_assoc, append-nil}
use Rattle.film_formats.specs.Numbers.{little2}
use Rattle.film_formats.specs.Colours.{dot_at}
use Rattle.film_formats.specs.Pictures.{frame_row}
use Rattle.film_avi.specs.Shown.{turned, turned_row, turned_rows}

pub turned_row-none : (row : List ℕ) → turned_row row 0 ≡ []
unfolding turned_row
turned_row-none row = refl

pub turned_row-more : (row : List ℕ) (k : ℕ) → turned_row row (k + 1) ≡ turned_row row k ++ little2 (turned (dot_at row k))
unfolding turned_row
turned_row-more row k = rw add-one refl

pub turned_rows-none : (frame : List ℕ) → turned_rows frame 0 ≡ []
unfolding turned_rows
turned_rows-none frame = refl

pub turned_rows-more : (frame : List ℕ) (k : ℕ) → turned_rows frame (k + 1)
    ≡ turned_rows frame k ++ turned_row (frame_row frame ((477 - k) / 2)) 512
unfolding turned_rows
turned_rows-more frame k = rw add-one refl

-- what was pushed behind the first pieces is the next piece
pub grown : (old out new upto piece next : List ℕ) → out ≡ old ++ upto → new ≡ out ++ piece → next ≡ upto ++ piece → new ≡ old ++ next
grown old out new upto piece next before now more =
    now ∙ ap (λ l. l ++ piece) before ∙ append_assoc old upto piece ∙ ap (λ l. old ++ l) (sym more)

-- nothing was pushed yet
pub begun : (out first : List ℕ) → first ≡ [] → out ≡ out ++ first
begun out first none = sym (ap (λ l. out ++ l) none ∙ append-nil out)
