-- The file of the sound unit's interpolation table. This project's own format.
use Rattle.std.specs.Prelude.{◌≡◌, ℕ, ◌+◌, ◌*◌, ◌<◌, ◌≤◌, List, length, slice_index, nat_eq, MatchBool}

-- an entry, from 0: 16 bits, low byte first
abbrev pub entry_of : List ℕ → ℕ → ℕ
entry_of file place = slice_index file (2 * place) + 256 * slice_index file (2 * place + 1)

-- a file of 512 entries, none of them above 2047, and the table that they make
pub record IsTableFile (file table : List ℕ) : Type 0 where
  pub size : length file ≡ 1024
  pub entries : length table ≡ 512
  pub numbers : (place : ℕ) → place < 512 → slice_index table place ≡ entry_of file place
  pub small : (place : ℕ) → place < 512 → entry_of file place ≤ 2047

-- the place of the first entry above 2047
pub record IsFirstLarge (file : List ℕ) (place : ℕ) : Type 0 where
  pub within : place < 512
  pub large : 2047 < entry_of file place
  pub first : (before : ℕ) → before < place → entry_of file before ≤ 2047

-- where a file is refused: at 512 for its length, and else at its first large entry
abbrev pub IsRefusedAt : List ℕ → ℕ → Type 0
IsRefusedAt file place = MatchBool (nat_eq (length file) 1024) (IsFirstLarge file place) (place ≡ 512)
