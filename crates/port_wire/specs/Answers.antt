-- What a call over a pass does, by its answer. This project's own profile.
use Rattle.std.specs.Prelude.{◌≡◌, ℕ, ◌+◌, ◌<◌, ◌≤◌, List, [], ◌∷◌, ◌++◌, Result, Ok, Err}
use Rattle.std.specs.List.{AllByRecursion}
use Rattle.snes_defs.specs.declared.ports.Side.{Side}
use Rattle.port_entries.specs.Entry.{Entry, WriteAt, ClearAt, entry_stamp}
use Rattle.port_entries.specs.LastValue.{last_value}
use Rattle.port_entries.specs.Window.{IsSettled, IsWithinWindow}
use Rattle.port_wire.specs.declared.late.PassLate.{PassLate}
use Rattle.port_wire.specs.declared.late.PassLate.TheVariants.{Behind, Ahead, Held}
use Rattle.port_wire.specs.declared.late.CallName.{CallName}
use Rattle.port_wire.specs.declared.late.CallName.TheVariants.{Read, Clear, Write, Advance}
use Rattle.port_wire.specs.Tally.{Tally, after_refusal, after_answer}
use Rattle.port_wire.specs.Seen.{Half, Seen}

-- what every call over a pass keeps: it may have heard more, and forgets nothing
pub record HearsOn (old new : Half) : Type 0 where
  pub more : List Entry
  pub heard : old.heard ++ more ≡ new.heard
  pub later : AllByRecursion (λ e. old.upto ≤ entry_stamp e) more
  pub upto : old.upto ≤ new.upto
  pub known : old.known ≤ new.known

-- a refused call changes nothing else than the tally
pub record IsRefused (name : CallName) (at : ℕ) (late : PassLate) (old new : Half) : Type 0 where
  pub mine : new.mine ≡ old.mine
  pub clock : new.at ≡ old.at
  pub tally : new.tally ≡ after_refusal old.tally name at late

-- a look at the ports at a stamp that isn't settled is refused as Behind, by the clock that was told
abbrev pub IsLateLook : Side → ℕ → Half → PassLate → Type 0
IsLateLook side at new (Behind need other) = (need ≡ at) × (other ≡ new.upto) × (¬ IsSettled side at new.upto)
IsLateLook side at new (Ahead too other) = ⊥
IsLateLook side at new (Held by) = Unit {0}

-- a write that is too far ahead is refused as Ahead, by the clock that was told
abbrev pub IsLateWrite : ℕ → ℕ → Half → PassLate → Type 0
IsLateWrite window at new (Behind need other) = ⊥
IsLateWrite window at new (Ahead too other) = (too ≡ at) × (other ≡ new.upto) × (¬ IsWithinWindow window at new.upto)
IsLateWrite window at new (Held by) = Unit {0}

-- an advance is refused as Held alone
abbrev pub IsLateAdvance : PassLate → Type 0
IsLateAdvance (Behind need other) = ⊥
IsLateAdvance (Ahead too other) = ⊥
IsLateAdvance (Held by) = Unit {0}

-- a read of a port
pub record HasRead (side : Side) (at port byte : ℕ) (old new : Half) : Type 0 where
  pub mine : new.mine ≡ old.mine
  pub clock : new.at ≡ old.at
  pub settled : IsSettled side at new.upto
  -- the clock that it was told is not earlier
  pub soon : at ≤ new.known
  pub value : byte ≡ last_value side old.mine port at new.heard
  pub tally : new.tally ≡ after_answer old.tally

abbrev pub EndsRead : Side → ℕ → ℕ → Result ℕ PassLate → Half → Half → Type 0
EndsRead side at port (Ok byte) old new = HasRead side at port byte old new
EndsRead side at port (Err late) old new = IsRefused Read at late old new × IsLateLook side at new late

-- a clear of the ports of a mask
pub record HasCleared (side : Side) (at mask : ℕ) (old new : Half) : Type 0 where
  pub mine : new.mine ≡ old.mine ++ ClearAt at mask ∷ []
  pub clock : new.at ≡ old.at
  pub settled : IsSettled side at new.upto
  -- the clock that it was told is not earlier
  pub soon : at ≤ new.known
  pub tally : new.tally ≡ after_answer old.tally

abbrev pub EndsClear : {A : Type 0} → Side → ℕ → ℕ → Result A PassLate → Half → Half → Type 0
EndsClear side at mask (Ok done) old new = HasCleared side at mask old new
EndsClear side at mask (Err late) old new = IsRefused Clear at late old new × IsLateLook side at new late

-- a write of a byte, which publishes a clock with it
pub record HasWritten (window at port byte next : ℕ) (old new : Half) : Type 0 where
  pub mine : new.mine ≡ old.mine ++ WriteAt at port byte ∷ []
  pub clock : new.at ≡ next
  pub within : IsWithinWindow window at new.known
  pub tally : new.tally ≡ after_answer old.tally

abbrev pub EndsWrite : {A : Type 0} → ℕ → ℕ → ℕ → ℕ → ℕ → Result A PassLate → Half → Half → Type 0
EndsWrite window at port byte next (Ok done) old new = HasWritten window at port byte next old new
EndsWrite window at port byte next (Err late) old new = IsRefused Write at late old new × IsLateWrite window at new late

-- an advance of the own clock, which tells the other's: where it tells one that is too early for a step
-- at that stamp it counts as refused, as Ahead
pub record HasAdvanced (window at other : ℕ) (old new : Half) : Type 0 where
  pub mine : new.mine ≡ old.mine
  pub clock : new.at ≡ at
  pub told : other ≡ new.known
  pub soon : IsWithinWindow window at other → new.tally ≡ after_answer old.tally
  pub late : (¬ IsWithinWindow window at other) → new.tally ≡ after_refusal old.tally Advance at (Ahead at other)

abbrev pub EndsAdvance : ℕ → ℕ → Result ℕ PassLate → Half → Half → Type 0
EndsAdvance window at (Ok other) old new = HasAdvanced window at other old new
EndsAdvance window at (Err late) old new = IsRefused Advance at late old new × IsLateAdvance late
