-- Each number of a list is a byte.
use Rattle.std.specs.Prelude.{ℕ, ◌<◌, List, slice_index}

abbrev pub AreBytes : List ℕ → Type 0
AreBytes numbers = (i : ℕ) → slice_index numbers i < 256
