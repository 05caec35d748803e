-- A slice that is filled from its front.
use Rattle.std.specs.Prelude.{◌≡◌, ℕ, ◌≤◌, List, ◌++◌, length, take, drop}

-- bytes stand in front of what a slice held, of which the rest is as it was
abbrev pub in_front : List ℕ → List ℕ → List ℕ
in_front bytes old = bytes ++ drop (length bytes) old

-- these bytes were handed to a slice, so many, and it holds them in front, as far as they fit
pub record Handed (slice : List ℕ) (count : ℕ) (bytes : List ℕ) : Type 0 where
  pub count_is : count ≡ length bytes
  pub front : take count slice ≡ take (length slice) bytes

-- between two moments only the front of a slice was changed, and what was handed to it grew
pub record OnlyFront (before after : List ℕ) (had count : ℕ) : Type 0 where
  pub size : length after ≡ length before
  pub back : drop count after ≡ drop count before
  pub more : had ≤ count
