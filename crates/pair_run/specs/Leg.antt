-- What a leg has done, and why it has ended. This project's own profile.
use Rattle.std.specs.Prelude.{◌≡◌, ℕ, ◌+◌, ◌*◌, ◌<◌, ◌≤◌, ◌↔◌, List, ◌++◌, length, Some}
use Rattle.snes_defs.specs.declared.ports.Side.{Side}
use Rattle.snes_defs.specs.declared.region.Region.{Region}
use Rattle.clock_ratio.specs.Stamp.{window_of}
use Rattle.side_law.specs.Moves.{Moves}
use Rattle.commute_laws.specs.History.{History}
use Rattle.commute_laws.specs.Leg.{IsLeg}
use Rattle.port_wire.specs.declared.late.PassLate.{PassLate}
use Rattle.port_wire.specs.declared.late.PassLate.TheVariants as late
use Rattle.port_wire.specs.declared.late.CallName.{CallName}
use Rattle.port_wire.specs.Reach.{IsInReach}
use Rattle.port_wire.specs.Seen.{Half, Seen}
use Rattle.port_wire.specs.Tally.{HasRisenBy}
use Rattle.pair_run.specs.Tried.{call_of}
use Rattle.pair_run.specs.declared.ends.LegEnd.{LegEnd}
use Rattle.pair_run.specs.declared.ends.LegEnd.TheVariants.{Done, Drain, Behind, Ahead, Held}

-- from a history with the pass's entries the machine has run a leg against what the pass has heard: its
-- state and entries are those of the leg, and the bytes of the leg wait
pub record LegRan {State : Type 0} (side : Side) (moves : Moves State) (window end : ℕ)
    (stands : State → Type 0) (new : Half) (waited waits : List ℕ) (before : History State) : Type 0 where
  pub after : History State
  pub leg : IsLeg side moves new.heard new.upto end before after
  pub now_stands : stands after.now
  pub entries : after.entries ≡ new.mine
  pub emitted : List ℕ
  pub emitted_is : before.emitted ++ emitted ≡ after.emitted
  pub waits_is : waited ++ emitted ≡ waits
  -- no step was further ahead than the window of a clock that the pass was told
  pub within : IsLeg side moves new.heard new.upto (new.known + window + 1) before after

-- so from each history in which the machine can have stood before, and whose entries are the pass's
pub record HasRun {State : Type 0} (side : Side) (moves : Moves State) (window end : ℕ)
    (stood stands : State → Type 0) (old new : Half) (waited waits : List ℕ) : Type 0 where
  pub from : (before : History State) → stood before.now → before.entries ≡ old.mine
      → LegRan side moves window end stands new waited waits before

-- the end of a leg that was held back for too long
abbrev pub end_of : PassLate → LegEnd
end_of (late.Behind need other) = Behind need other
end_of (late.Ahead at other) = Ahead at other
end_of (late.Held by) = Held by

-- what is said of the refusal by which a leg was held back
abbrev pub IfHeldBack : LegEnd → (PassLate → Type 0) → Type 0
IfHeldBack Done P = Unit {0}
IfHeldBack Drain P = Unit {0}
IfHeldBack (Behind need other) P = P (late.Behind need other)
IfHeldBack (Ahead at other) P = P (late.Ahead at other)
IfHeldBack (Held by) P = P (late.Held by)

-- the last calls, as many as there are tries, were all this call at this stamp, all in this leg, and each
-- was refused, the last of them so
pub record IsSpent (name : CallName) (at : ℕ) (late : PassLate) (tries : ℕ) (old new : Half) : Type 0 where
  pub refused : HasRisenBy tries old.tally.refused new.tally.refused
  pub row : tries ≤ new.tally.row
  pub last : new.tally.last ≡ Some (record { name = name; at = at; late = late })

-- a machine's value of a region, at a stamp, beside its half of the ports: the clock that its side has published is not
-- later than the stamp, and the stamp is within the side's reach
pub record IsBeside (region of : Region) (at : ℕ) (half : Half) : Type 0 where
  pub same_region : of ≡ region
  pub clock : half.at ≤ at
  pub reach : IsInReach region at half

-- and it has room for the bytes of two steps
pub record IsReady (region of : Region) (most cap at : ℕ) (half : Half) (waits : List ℕ) : Type 0 where
  pub beside : IsBeside region of at half
  pub room : length waits + 2 * most ≤ cap

-- WHAT A LEG OF SO MANY TRIES PROMISES of a value, which stands at a stamp now
pub record HasMadeLeg {State : Type 0} (region of : Region) (moves : Moves State) (most cap end tries : ℕ)
    (stood stands : State → Type 0) (at : ℕ) (old new : Seen) (waited waits : List ℕ) (leg_end : LegEnd) : Type 0 where
  pub side : new.side ≡ old.side
  pub beside : IsBeside region of at new.half
  pub room : length waits + most ≤ cap
  -- its steps are a leg
  pub ran : HasRun old.side moves (window_of region) end stood stands old.half new.half waited waits
  -- it is done if and only if it has come to the end, and drains if and only if it has no room on the way
  pub done : (leg_end ≡ Done) ↔ (end ≤ at)
  pub drain : (leg_end ≡ Drain) ↔ ((at < end) × (¬ (length waits + 2 * most ≤ cap)))
  -- otherwise all tries of its next step's call were refused
  pub spent : (m : State) → stands m
      → IfHeldBack leg_end (λ late. IsSpent (call_of (moves.act m)) at late tries old.half new.half)
