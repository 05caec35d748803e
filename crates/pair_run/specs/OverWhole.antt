-- A whole as the ports of the earlier side's machine: what a call does, by its act. This project's own profile.
use Rattle.std.specs.Prelude.{◌≡◌, ℕ, ◌+◌, ◌-◌, ◌^◌, ◌≤◌, List, length}
use Rattle.snes_defs.specs.declared.ports.Side.{Side}
use Rattle.snes_defs.specs.declared.ports.Act.{Act}
use Rattle.snes_defs.specs.declared.ports.Act.TheVariants.{Quiet, Read, Write, Clear}
use Rattle.snes_defs.specs.declared.region.Region.{Region}
use Rattle.clock_ratio.specs.Stamp.{least_of, most_of, window_of}
use Rattle.port_entries.specs.Window.{IsSettled}
use Rattle.side_law.specs.Moves.{Moves}
use Rattle.side_law.specs.Gone.{Calls}
use Rattle.commute_laws.specs.History.{History}
use Rattle.port_wire.specs.declared.late.PassLate.{PassLate}
use Rattle.port_wire.specs.Seen.{Half, Both, half_of}
use Rattle.port_wire.specs.Whole.{other_of, IsOwn, HearBoth, IsUnsettled, IsBeyond}
use Rattle.port_wire.specs.Whole.{ReadsWhole, ClearsWhole, WritesWhole}
use Rattle.pair_run.specs.Tried.{Tried, as_heard}

-- a whole over a wire, as the calls of one side over it see it
pub record WholeWay (Wire : Type 0) : Type 0 where
  pub wire : Wire
  pub region : Region
  -- by which reference the whole is reached
  pub name : ℕ
  pub side : Side
  pub both : Both

-- the way of these parts
abbrev pub whole_way : {Wire : Type 0} → Wire → Region → ℕ → Side → Both → WholeWay Wire
whole_way wire region name side both = record { wire = wire; region = region; name = name; side = side; both = both }

-- the half of the side itself, and that of the other
abbrev pub own_half : {Wire : Type 0} → WholeWay Wire → Half
own_half p = half_of p.side p.both

abbrev pub other_half : {Wire : Type 0} → WholeWay Wire → Half
other_half p = half_of (other_of p.side) p.both

-- a call that was answered, by its act. A write publishes the least stamp of the next step with it
abbrev pub EndsCallWhole : {Wire : Type 0} → WholeWay Wire → ℕ → Act → ℕ → Half → Type 0
EndsCallWhole p at Quiet got new = Unit {0}
EndsCallWhole p at (Read port) got new = ReadsWhole p.side at port got (own_half p) (other_half p) new
EndsCallWhole p at (Write port byte) got new =
    WritesWhole (window_of p.region) at port byte (at + least_of p.region) (own_half p) (other_half p) new
EndsCallWhole p at (Clear mask) got new = ClearsWhole p.side at mask (own_half p) (other_half p) new

pub record IsByWhole {Wire : Type 0} (at : ℕ) (act : Act) (got : ℕ) (p q : WholeWay Wire) : Type 0 where
  pub wire : q.wire ≡ p.wire
  pub region : q.region ≡ p.region
  pub name : q.name ≡ p.name
  pub side : q.side ≡ p.side
  pub own : IsOwn p.side p.both q.both
  pub hears : HearBoth p.both q.both
  pub ends : EndsCallWhole p at act got (half_of p.side q.both)

-- why a call was refused: the other side's clock doesn't settle it
abbrev pub IsTooSoon : {Wire : Type 0} → WholeWay Wire → ℕ → Act → PassLate → Type 0
IsTooSoon p at Quiet late = ⊥
IsTooSoon p at (Read port) late = IsUnsettled p.side at (other_half p).at late
IsTooSoon p at (Write port byte) late = IsBeyond (window_of p.region) at (other_half p).at late
IsTooSoon p at (Clear mask) late = IsUnsettled p.side at (other_half p).at late

abbrev pub whole_calls : {Wire : Type 0} → Calls (WholeWay Wire)
whole_calls = record {
  answers = IsByWhole;
  refuses = λ at act p q. (late : PassLate) × IsTooSoon p at act late;
  room = λ p waiting. 2 ^ 64 - 1;
  told = λ at waiting p q. p ≡ q;
}

-- a value of a machine, whose next step is at a stamp, may make that step over a whole: its side is the earlier one
pub record MayStep (region of : Region) (most cap at : ℕ) (side : Side) (both : Both) (waits : List ℕ) : Type 0 where
  pub same_region : of ≡ region
  pub room : length waits + most ≤ cap
  pub early : at ≤ 2 ^ 51
  pub clock : (half_of side both).at ≤ at
  pub first : IsSettled side at (half_of (other_of side) both).at

-- what its step keeps of both sides
pub record KeepsBoth (side : Side) (old new : Both) : Type 0 where
  pub tally : (half_of side new).tally ≡ (half_of side old).tally
  pub other_tally : (half_of (other_of side) new).tally ≡ (half_of (other_of side) old).tally
  pub other_clock : (half_of (other_of side) new).at ≡ (half_of (other_of side) old).at
  pub known : (half_of side old).known ≤ (half_of side new).known
  pub other_known : (half_of (other_of side) old).known ≤ (half_of (other_of side) new).known

-- the step from a history: against all that the other side has logged, which is what it was
pub record IsTriedWhole {State : Type 0} (side : Side) (moves : Moves State) (window : ℕ)
    (stands : State → Type 0) (old new : Both)
    (waited waits : List ℕ) (before : History State) : Type 0 where
  pub tried : Tried side moves window stands (as_heard (half_of side new) (half_of (other_of side) old)) waited waits
      before
  pub other : (half_of (other_of side) new).mine ≡ (half_of (other_of side) old).mine

-- the step of a value, which stood at a stamp and stands at another
pub record HasMadeStep {State : Type 0} (region : Region) (side : Side) (moves : Moves State) (most : ℕ)
    (stood stands : State → Type 0)
    (was now : ℕ) (old new : Both) (waited waits : List ℕ) : Type 0 where
  pub keeps : KeepsBoth side old new
  pub clock : (half_of side new).at ≤ now
  pub rises : was + least_of region ≤ now
  pub rises_at_most : now ≤ was + most_of region
  pub emits_at_most : length waits ≤ length waited + most
  pub step : (before : History State) → stood before.now → before.entries ≡ (half_of side old).mine
      → IsTriedWhole side moves (window_of region) stands old new waited waits before
