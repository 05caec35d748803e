-- What a read of a piece takes.
use Rattle.std.specs.Prelude.{ℕ, ◌<◌, List, length, take, Option}
use Rattle.std.specs.Io.KnownBytes.{Consumes, IsAtEnd}
use Rattle.film_formats.specs.declared.film.Piece.{Piece}
use Rattle.film_formats.specs.declared.film.Piece.TheVariants.{Whole, End, Cut}

-- a whole piece is the first of what was left; at the end nothing was left; of a cut one all that was left stands in
-- front, and it is less than a piece
abbrev pub TakesPiece : Option (List ℕ) → Option (List ℕ) → List ℕ → Piece → Type 0
TakesPiece old new piece Whole = Consumes old new piece
TakesPiece old new piece End = IsAtEnd old
TakesPiece old new piece (Cut count) = (0 < count) × (count < length piece) × Consumes old new (take count piece) × IsAtEnd new
