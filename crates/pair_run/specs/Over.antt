-- A pass as the ports of its machine: what a call does, by its act. This project's own profile.
use Rattle.std.specs.Prelude.{◌≡◌, ℕ, ◌+◌, ◌-◌, ◌*◌, ◌^◌, ◌<◌, ◌≤◌, ◌⊎◌, nat_le, List, length, if◌then◌else◌}
use Rattle.snes_defs.specs.declared.ports.Side.{Side}
use Rattle.snes_defs.specs.declared.ports.Act.{Act}
use Rattle.snes_defs.specs.declared.ports.Act.TheVariants.{Quiet, Read, Write, Clear}
use Rattle.snes_defs.specs.declared.region.Region.{Region}
use Rattle.clock_ratio.specs.Stamp.{least_of, window_of}
use Rattle.side_law.specs.Moves.{Moves}
use Rattle.side_law.specs.Gone.{Calls}
use Rattle.commute_laws.specs.History.{History}
use Rattle.port_wire.specs.declared.late.PassLate.{PassLate}
use Rattle.port_wire.specs.Reach.{IsInReach}
use Rattle.port_wire.specs.Seen.{Half, Seen}
use Rattle.port_wire.specs.Tally.{HasRisenBy}
use Rattle.port_wire.specs.Answers.{HearsOn, IsRefused, HasRead, HasWritten, HasCleared}
use Rattle.pair_run.specs.Tried.{IsHeldBack, call_of}
use Rattle.pair_run.specs.Leg.{LegRan}

-- a pass over a wire, as the calls over it see it
pub record Way (Wire : Type 0) : Type 0 where
  pub wire : Wire
  pub region : Region
  -- by which reference the pass is reached
  pub name : ℕ
  pub side : Side
  pub half : Half
  -- the last refusal
  pub late : PassLate
  -- a step may emit with so many bytes buffered, or fewer
  pub held : ℕ

-- the way of these parts
abbrev pub way_of : {Wire : Type 0} → Wire → Region → ℕ → Seen → PassLate → ℕ → Way Wire
way_of wire region name seen late held =
    record { wire = wire; region = region; name = name; side = seen.side; half = seen.half; late = late; held = held }

-- what every call keeps
pub record IsSameWay {Wire : Type 0} (p q : Way Wire) : Type 0 where
  pub wire : q.wire ≡ p.wire
  pub region : q.region ≡ p.region
  pub name : q.name ≡ p.name
  pub side : q.side ≡ p.side
  pub held : q.held ≡ p.held
  pub hears : HearsOn p.half q.half

-- a call that was answered, by its act. A write publishes the least stamp of the next step with it
abbrev pub EndsCall : {Wire : Type 0} → Way Wire → ℕ → Act → ℕ → Half → Half → Type 0
EndsCall p at Quiet got old new = Unit {0}
EndsCall p at (Read port) got old new = HasRead p.side at port got old new
EndsCall p at (Write port byte) got old new =
    HasWritten (window_of p.region) at port byte (at + least_of p.region) old new
EndsCall p at (Clear mask) got old new = HasCleared p.side at mask old new

pub record IsByPass {Wire : Type 0} (at : ℕ) (act : Act) (got : ℕ) (p q : Way Wire) : Type 0 where
  pub same : IsSameWay p q
  pub ends : EndsCall p at act got p.half q.half

-- a call that was refused
pub record IsLateBy {Wire : Type 0} (at : ℕ) (act : Act) (p q : Way Wire) : Type 0 where
  pub same : IsSameWay p q
  pub refused : IsRefused (call_of act) at q.late p.half q.half

abbrev pub pass_calls : {Wire : Type 0} → Calls (Way Wire)
pass_calls = record {
  answers = IsByPass;
  refuses = IsLateBy;
  room = λ p waiting. if nat_le waiting p.held then 2 ^ 64 - 1 else 0;
  told = λ at waiting p q. p ≡ q;
}

-- quiet steps begun before a stamp keep to the window: up to `bound`, or the next step alone, which isn't quiet
abbrev pub KeepsWithin : {State : Type 0} → Moves State → (State → Type 0) → ℕ → ℕ → ℕ → Type 0
KeepsWithin moves stood at until bound =
    (until ≤ bound + 1) ⊎ ((until ≤ at + 1) × ((m : _) → stood m → moves.act m ≡ Quiet → ⊥))

-- steps of a machine over its pass, from a history on: a leg, and what the pass has heard meanwhile
pub record HasRunOn {State : Type 0} (side : Side) (moves : Moves State) (window end : ℕ)
    (stands : State → Type 0) (old new : Half) (waited waits : List ℕ) (before : History State) : Type 0 where
  pub ran : LegRan side moves window end stands new waited waits before
  pub hears : HearsOn old new

-- a clock that a side published, or tried to, for its next step: it may have heard more, and did nothing else
pub record HasTold (region : Region) (at : ℕ) (old new : Half) : Type 0 where
  pub hears : HearsOn old new
  pub mine : new.mine ≡ old.mine
  pub clock : new.at ≤ at
  pub reach : IsInReach region at new
  -- refusals that were counted are still
  pub counted : (before : ℕ) → HasRisenBy 0 before old.tally.refused → HasRisenBy 0 before new.tally.refused

-- before this stamp, which is by the end, steps may be begun. If the next one isn't quiet, nothing was done to find it
pub record IsLimit {State : Type 0} (moves : Moves State)
    (stood : State → Type 0) (at end bound : ℕ) (old new : Half) (until : ℕ) : Type 0 where
  pub above : at < until
  pub by_end : until ≤ end
  pub keeps : KeepsWithin moves stood at until bound
  pub same : (m : State) → stood m → (moves.act m ≡ Quiet → ⊥) → new ≡ old

-- a value at a stamp may run steps before an end over its pass
pub record MayRun (region : Region) (most cap at end : ℕ) (half : Half) (waits : List ℕ) : Type 0 where
  pub ready : length waits + 2 * most ≤ cap
  pub before : at < end
  pub early : end ≤ 2 ^ 51
  pub clock : half.at ≤ at
  pub reach : IsInReach region at half

-- steps of a value, which stood at a stamp and stands at another, with what they keep
pub record HasTried {State : Type 0} (region : Region) (side : Side) (moves : Moves State) (most cap end : ℕ)
    (stood stands : State → Type 0) (was now : ℕ) (old new : Half) (waited waits : List ℕ) : Type 0 where
  pub ran : (before : History State) → stood before.now → before.entries ≡ old.mine
      → HasRunOn side moves (window_of region) end stands old new waited waits before
  pub forward : was ≤ now
  pub clock : new.at ≤ now
  pub reach : IsInReach region now new
  pub room : length waits + most ≤ cap
  -- if the stamp has not risen nothing was emitted
  pub silent : now ≤ was → length waits ≡ length waited
  pub counted : (before : ℕ) → HasRisenBy 0 before old.tally.refused → HasRisenBy 0 before new.tally.refused

-- no step was made, since the call of the next one was refused
pub record IsHeldStill {State : Type 0} (moves : Moves State)
    (stands : State → Type 0) (at : ℕ) (late : PassLate) (old new : Half) (m : State) : Type 0 where
  pub now_stands : stands m
  pub held : IsHeldBack (call_of (moves.act m)) at late old new

-- so of a value
pub record IsHeldOff {State : Type 0} (moves : Moves State)
    (stood stands : State → Type 0) (was now : ℕ) (old new : Half) (late : PassLate) : Type 0 where
  pub still : now ≡ was
  pub held : (m : State) → stood m → IsHeldStill moves stands was late old new m
  -- all states that it can be in now have the same act
  pub alike : (m n : State) → stands m → stands n → moves.act m ≡ moves.act n
