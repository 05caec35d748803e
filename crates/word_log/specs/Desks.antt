-- What the code keeps beside a side's half, and what it stands for. This project's own profile.
use Rattle.std.specs.Prelude.{◌≡◌, ℕ, ◌+◌, ◌*◌, ◌≤◌, nat_le, nat_lt, List, [], ◌∷◌, ◌++◌, Some, max, length, if◌then◌else◌}
use Rattle.snes_defs.specs.declared.region.Region.{Region}
use Rattle.snes_defs.specs.declared.ports.Side.{Side}
use Rattle.snes_defs.specs.declared.ports.Side.TheVariants.{Console, Sound}
use Rattle.clock_ratio.specs.Stamp.{least_of}
use Rattle.port_entries.specs.Entry.{Entry, WriteAt, ClearAt}
use Rattle.port_log.specs.Kept.{clock_of, other_clock, other_side}
use Rattle.port_log.specs.Entries.{Entries, StandsFor}
use Rattle.port_wire.specs.Seen.{writes_of}
use Rattle.word_log.specs.Known.{Half, Known, half_option, half_in}
use Rattle.word_log.specs.Rule.{AreFrom, written, end_of}
use Rattle.word_log.specs.declared.desk.Desk.{Desk}

-- the clears of a list
abbrev pub clears_of : List Entry → List Entry
clears_of [] = []
clears_of (WriteAt at port byte ∷ es) = clears_of es
clears_of (ClearAt at mask ∷ es) = ClearAt at mask ∷ clears_of es

-- the entries by which a side's ports are read: its own clears, and the other's writes that it has taken
abbrev pub heard_entries : Side → List Entry → List Entry → Entries
heard_entries Console clears heard = record { console = clears; sound = heard }
heard_entries Sound clears heard = record { console = heard; sound = clears }

-- the log that a desk keeps stands for some clears of the side's own and for what it has taken
abbrev pub ReadsBy : Side → List Entry → Half → Desk → Type 0
ReadsBy side clears h d = StandsFor d.log (heard_entries side clears h.heard)

-- the log's clock and the counts are those of the half, and the other side's clock in the log is not past what may
-- still be taken
pub record IsDesk (side : Side) (region : Region) (h : Half) (d : Desk) : Type 0 where
  pub of_region : d.log.region ≡ region
  pub clock : clock_of side d.log ≡ h.at
  pub front : other_clock side d.log ≤ max h.upto (end_of (least_of region) h.heard)
  pub heard : d.heard ≡ length h.heard
  pub written : d.written ≡ written h

-- the desk of a side between two calls: it was told last the clock up to which it has taken all
pub record IsReady (side : Side) (region : Region) (h : Half) (d : Desk) : Type 0 where
  pub desk : IsDesk side region h d
  pub reads : ReadsBy side (clears_of h.mine) h d
  pub known : d.known ≡ h.other
  pub upto : h.upto ≡ h.other
  pub soon : h.other ≤ other_clock side d.log
  -- its writes are below its clock, each a rise before the next
  pub done : end_of (least_of region) (writes_of h.mine) ≤ h.at
  pub many : least_of region * d.written ≤ h.at

-- a side has taken more of the other's writes
pub record Takes (side : Side) (v w : Known) : Type 0 where
  pub more : List Entry
  pub own : half_option side w ≡ Some (half_in side w)
  pub others : half_option (other_side side) w ≡ half_option (other_side side) v
  pub place : w.region ≡ v.region
  pub told : w.told ≡ v.told
  pub mine : (half_in side w).mine ≡ (half_in side v).mine
  pub at : (half_in side w).at ≡ (half_in side v).at
  pub other : (half_in side w).other ≡ (half_in side v).other
  pub may : (half_in side w).may ≡ (half_in side v).may
  pub heard : (half_in side v).heard ++ more ≡ (half_in side w).heard
  pub later : AreFrom (half_in side v).upto more
  pub raised : (half_in side w).may ≤ length (half_in side w).heard → (half_in side w).upto ≡ (half_in side w).other
  pub low : length (half_in side w).heard + 1 ≤ (half_in side w).may → (half_in side w).upto ≡ (half_in side v).upto

-- a side was told the other's clock, has taken all that the other has counted, has logged some entries, and has
-- published a clock
pub record Listens (side : Side) (v w : Known) (es : List Entry) (clock : ℕ) : Type 0 where
  pub more : List Entry
  pub own : half_option side w ≡ Some (half_in side w)
  pub others : half_option (other_side side) w ≡ half_option (other_side side) v
  pub place : w.region ≡ v.region
  pub told : w.told ≡ v.told + 1
  pub mine : (half_in side w).mine ≡ (half_in side v).mine ++ es
  pub at : (half_in side w).at ≡ clock
  pub heard : (half_in side v).heard ++ more ≡ (half_in side w).heard
  pub later : AreFrom (half_in side v).upto more
  pub upto : (half_in side w).upto ≡ (half_in side w).other
  pub other : (half_in side v).other ≤ (half_in side w).other
  -- where the seat has the other half too, it is all that the other has logged, and the other's clock
  pub whole : (o : Half) → half_option (other_side side) v ≡ Some o
      → ((half_in side w).other ≡ o.at) × (written o ≤ length (half_in side w).heard)

-- what a clear logs where a clock that settles it was told
abbrev pub clear_at : Side → ℕ → ℕ → ℕ → List Entry
clear_at Console at mask other = if nat_le at other then ClearAt at mask ∷ [] else []
clear_at Sound at mask other = if nat_lt at other then ClearAt at mask ∷ [] else []

abbrev pub nothing_at : ℕ → List Entry
nothing_at other = []
