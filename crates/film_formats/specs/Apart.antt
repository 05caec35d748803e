-- Where two pieces of the same length differ.
use Rattle.std.specs.Prelude.{◌≡◌, ◌≢◌, ℕ, ◌<◌, List, length, take, slice_index, Option, None, Some}

-- none: they are alike; else the first place at which their bytes differ
abbrev pub IsFirstApart : List ℕ → List ℕ → Option ℕ → Type 0
IsFirstApart a b None = a ≡ b
IsFirstApart a b (Some at) = (at < length a) × (take at a ≡ take at b) × (slice_index a at ≢ slice_index b at)
