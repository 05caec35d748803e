-- What the steps of a seat do to the half of a side, and what they tell. This project's own profile.
use Rattle.std.specs.Prelude.{◌≡◌, ℕ, ◌+◌, ◌≤◌, nat_le, List, [], ◌∷◌, ◌++◌, Option, Some, None, if◌then◌else◌, length}
use Rattle.snes_defs.specs.declared.region.Region.{Region}
use Rattle.snes_defs.specs.declared.ports.Side.{Side}
use Rattle.clock_ratio.specs.Stamp.{least_of, window_of}
use Rattle.port_entries.specs.Entry.{Entry, WriteAt, ClearAt, entry_stamp}
use Rattle.port_wire.specs.Seen.{writes_of}
use Rattle.word_log.specs.Layout.{entry_in, FitsWord}
use Rattle.port_log.specs.Kept.{other_side}
use Rattle.word_log.specs.Known.{Half, Known, Halves, half_option, half_in, changed, told_once}
use Rattle.word_log.specs.Rule.{written, end_of, AreTied, IsTrueTo}

-- an entry is a clear, not before a stamp
abbrev pub IsClearFrom : ℕ → Entry → Type 0
IsClearFrom clock (WriteAt at port byte) = ⊥
IsClearFrom clock (ClearAt at mask) = clock ≤ at

-- a side is told the other's clock, where that has made so many writes, and logs a clear or nothing
abbrev pub after_clock : ℕ → ℕ → List Entry → Half → Half
after_clock clock many clears h = record h { mine = h.mine ++ clears; other = clock; may = many }

-- it is told how many writes the other has counted
abbrev pub after_length : ℕ → Half → Half
after_length many h = record h { upto = if nat_le many (length h.heard) then h.other else h.upto; may = many }

-- it takes one more of them
abbrev pub after_entry : Entry → Half → Half
after_entry e h = record h {
  heard = h.heard ++ e ∷ [];
  upto = if nat_le h.may (length h.heard + 1) then h.other else h.upto;
}

-- it puts a write, counts it, and publishes a clock
abbrev pub after_put : Entry → Half → Half
after_put e h = record h { coming = Some e }

abbrev pub with_coming : Option Entry → List Entry → List Entry
with_coming None es = es
with_coming (Some e) es = es ++ e ∷ []

abbrev pub after_count : Half → Half
after_count h = record h { mine = with_coming h.coming h.mine; coming = None }

abbrev pub after_publish : ℕ → Half → Half
after_publish clock h = record h { at = clock }

-- a side may count the write that it has put: it fits its word, comes after all that the side has written, not before
-- its clock, and is not further ahead of the other's clock than the window
pub record MayCount (region : Region) (h : Half) : Type 0 where
  pub at : ℕ
  pub port : ℕ
  pub byte : ℕ
  pub coming : h.coming ≡ Some (WriteAt at port byte)
  pub fits : FitsWord (WriteAt at port byte)
  pub done : end_of (least_of region) (writes_of h.mine) ≤ h.at
  pub late : h.at ≤ at
  pub near : at ≤ h.other + window_of region

-- a load of the other side's clock: the clock found is that, not less than what was known. Where the seat has
-- the other half too it is that half's.
pub record TellsClock (side : Side) (v : Known) (logs : ℕ → List Entry) (found : ℕ) (w : Known) : Type 0 where
  pub many : ℕ
  pub after : w ≡ changed side (after_clock found many (logs found) (half_in side v)) (told_once v)
  pub rises : (half_in side v).other ≤ found
  pub whole : (o : Half) → half_option (other_side side) v ≡ Some o → found ≡ o.at

-- a load of its count
pub record TellsLength (side : Side) (v : Known) (found : ℕ) (w : Known) : Type 0 where
  pub after : w ≡ changed side (after_length found (half_in side v)) v
  pub more : length (half_in side v).heard ≤ found
  pub upto : (half_in side v).upto ≤ (half_in side v).other
  pub whole : (o : Half) → half_option (other_side side) v ≡ Some o → found ≡ written o

-- a load of one of its entries: the write that the word holds, which comes after all that was taken, not before
-- `upto`, and not further ahead of the side's own clock than the window
pub record TellsEntry (side : Side) (v : Known) (found : ℕ) (w : Known) : Type 0 where
  pub after : w ≡ changed side (after_entry (entry_in found) (half_in side v)) v
  pub from_upto : (half_in side v).upto ≤ entry_stamp (entry_in found)
  pub rises : end_of (least_of v.region) (half_in side v).heard ≤ entry_stamp (entry_in found)
  pub within : entry_stamp (entry_in found) ≤ (half_in side v).at + window_of v.region

-- a look changes nothing, and tells what holds of the two halves
pub record TellsAll (v w : Known) : Type 0 where
  pub same : w ≡ v
  pub halves : Halves
  pub known : IsTrueTo v.region halves v
  pub tied : AreTied v.region halves
