-- The rule of the table: what its words say of the two sides, and what each side knows of the other.
-- This project's own profile.
use Rattle.std.specs.Prelude.{◌≡◌, ℕ, ◌+◌, ◌≤◌, List, [], ◌∷◌, ◌++◌, Some, IfSome, max, length, drop, slice_index, slice_get}
use Rattle.std.specs.List.{AllByRecursion}
use lib.ListN.{get_elem?}
use mathlib.Core.Option.{some}
use Rattle.atomic_table.specs.Table.{State}
use Rattle.snes_defs.specs.declared.region.Region.{Region}
use Rattle.snes_defs.specs.declared.ports.Side.{Side}
use Rattle.clock_ratio.specs.Stamp.{least_of, most_of, window_of}
use Rattle.port_entries.specs.Entry.{Entry, WriteAt, ClearAt, entry_stamp}
use Rattle.port_wire.specs.Seen.{writes_of}
use Rattle.word_log.specs.Sums.{total, count_of}
use Rattle.word_log.specs.Layout.{all_words, ring, clock_word, count_word, entry_word, entry_number, FitsWord}
use Rattle.port_log.specs.Kept.{other_side}
use Rattle.word_log.specs.Known.{Half, Known, Halves, half_of, half_option, has}

-- every entry after a write is at least so many stamps later
abbrev pub AreRising : ℕ → List Entry → Type 0
AreRising least [] = Unit {0}
AreRising least (WriteAt at port byte ∷ es) =
    AllByRecursion (λ e. at + least ≤ entry_stamp e) es × AreRising least es
AreRising least (ClearAt at mask ∷ es) = AreRising least es

-- entries that are stamped at a moment or later
abbrev pub AreFrom : ℕ → List Entry → Type 0
AreFrom at es = AllByRecursion (λ e. at ≤ entry_stamp e) es

-- and entries that are stamped at a moment or earlier
abbrev pub AreUpTo : ℕ → List Entry → Type 0
AreUpTo at es = AllByRecursion (λ e. entry_stamp e ≤ at) es

-- how many writes a side has logged
abbrev pub written : Half → ℕ
written h = length (writes_of h.mine)

-- what the words of a side say: its clock, the number of its writes, and the last of these, as many as
-- there are entry words but for the place of one that is put and not counted yet
pub record AreWordsOf (side : Side) (words : List ℕ) (h : Half) : Type 0 where
  pub clock : slice_index words (clock_word side) ≡ h.at
  pub count : slice_index words (count_word side) ≡ written h
  pub entries : (k : ℕ) (e : Entry) → slice_get (writes_of h.mine) k ≡ Some e → written h + count_of h.coming ≤ k + ring
      → slice_index words (entry_word side k) ≡ entry_number e
  pub coming : IfSome h.coming (λ e. slice_index words (entry_word side (written h)) ≡ entry_number e)

-- what a side knows of the other one, and what holds of its own entries beside the other's clock
pub record Follows (region : Region) (h o : Half) : Type 0 where
  -- it has taken a beginning of the other's writes, which has all that are stamped before `upto`
  pub rest : List Entry
  pub heard : h.heard ++ rest ≡ writes_of o.mine
  pub later : AreFrom h.upto rest
  -- the writes from number `may` on are not before the clock that it was told
  pub may : h.may ≤ written o
  pub after_may : AreFrom h.other (drop h.may (writes_of o.mine))
  pub upto : h.upto ≤ h.other
  pub other : h.other ≤ o.at
  -- its clock is not further ahead of `upto` than the window and one rise
  pub near : h.at ≤ h.upto + window_of region + most_of region
  -- its writes rise, fit their words, and are not further ahead of the other's clock than the window
  pub rises : AreRising (least_of region) h.mine
  pub fits : AllByRecursion FitsWord h.mine
  pub within : AreUpTo (o.at + window_of region) (writes_of h.mine)

-- what a view knows is so by the halves
pub record IsTrueTo (region : Region) (b : Halves) (v : Known) : Type 0 where
  pub half : (side : Side) → IfSome (half_option side v) (λ h. h ≡ half_of side b)
  pub of_region : (side : Side) → has side v ≡ 1 → v.region ≡ region

-- what holds of the two halves
abbrev pub AreTied : Region → Halves → Type 0
AreTied region b = (side : Side) → Follows region (half_of side b) (half_of (other_side side) b)

-- Each side's half stands in one view. Its words say what it is, and each knows of the other what is so.
pub record WordsHold (region : Region) (s : State (Unit {0}) Known) : Type 0 where
  pub halves : Halves
  pub wide : length s.words ≡ all_words
  pub single : (side : Side) → total (has side) s.views ≡ 1
  pub known : (j : ℕ) (v : Known) → get_elem? s.views j ≡ some v → IsTrueTo region halves v
  pub words : (side : Side) → AreWordsOf side s.words (half_of side halves)
  pub tied : AreTied region halves

-- the stamp from which one more entry may come
abbrev pub end_of : ℕ → List Entry → ℕ
end_of least [] = 0
end_of least (e ∷ es) = max (entry_stamp e + least) (end_of least es)
