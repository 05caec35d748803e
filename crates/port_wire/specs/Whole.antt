-- What a call over a whole does, by its answer: it is answered on the two lists as they stand, and never
-- held. This project's own profile.
use Rattle.std.specs.Prelude.{◌≡◌, ℕ, List, [], ◌∷◌, ◌++◌, Result, Ok, Err}
use Rattle.snes_defs.specs.declared.ports.Side.{Side}
use Rattle.snes_defs.specs.declared.ports.Side.TheVariants.{Console, Sound}
use Rattle.port_entries.specs.Entry.{Entry, WriteAt, ClearAt}
use Rattle.port_entries.specs.LastValue.{last_value}
use Rattle.port_entries.specs.Window.{IsSettled, IsWithinWindow}
use Rattle.port_wire.specs.declared.late.PassLate.{PassLate}
use Rattle.port_wire.specs.declared.late.PassLate.TheVariants.{Behind, Ahead, Held}
use Rattle.port_wire.specs.Seen.{Half, Both, half_of}
use Rattle.port_wire.specs.Answers.{HearsOn}

abbrev pub other_of : Side → Side
other_of Console = Sound
other_of Sound = Console

-- all of a side but what it has heard is as it was
pub record HasKept (old new : Half) : Type 0 where
  pub mine : new.mine ≡ old.mine
  pub clock : new.at ≡ old.at
  pub tally : new.tally ≡ old.tally

-- what every call over a whole keeps, of the side's own half and of the other's
pub record IsOwn (side : Side) (old new : Both) : Type 0 where
  pub other : HasKept (half_of (other_of side) old) (half_of (other_of side) new)
  pub tally : (half_of side new).tally ≡ (half_of side old).tally

-- either side may have heard more, and neither forgets anything
pub record HearBoth (old new : Both) : Type 0 where
  pub console : HearsOn old.console new.console
  pub sound : HearsOn old.sound new.sound

-- a look at a stamp that isn't settled by the other side's clock is refused as Behind
abbrev pub IsUnsettled : Side → ℕ → ℕ → PassLate → Type 0
IsUnsettled side at clock (Behind need other) = (need ≡ at) × (other ≡ clock) × (¬ IsSettled side at clock)
IsUnsettled side at clock (Ahead too other) = ⊥
IsUnsettled side at clock (Held by) = ⊥

-- a write that is too far ahead of the other side's clock is refused as Ahead
abbrev pub IsBeyond : ℕ → ℕ → ℕ → PassLate → Type 0
IsBeyond window at clock (Behind need other) = ⊥
IsBeyond window at clock (Ahead too other) = (too ≡ at) × (other ≡ clock) × (¬ IsWithinWindow window at clock)
IsBeyond window at clock (Held by) = ⊥

-- a read of a port, over both lists
pub record ReadsWhole (side : Side) (at port byte : ℕ) (own other new : Half) : Type 0 where
  pub mine : new.mine ≡ own.mine
  pub clock : new.at ≡ own.at
  pub settled : IsSettled side at other.at
  pub value : byte ≡ last_value side own.mine port at other.mine

abbrev pub EndsReadWhole : Side → ℕ → ℕ → Result ℕ PassLate → Half → Half → Half → Type 0
EndsReadWhole side at port (Ok byte) own other new = ReadsWhole side at port byte own other new
EndsReadWhole side at port (Err late) own other new = HasKept own new × IsUnsettled side at other.at late

-- a clear of the ports of a mask
pub record ClearsWhole (side : Side) (at mask : ℕ) (own other new : Half) : Type 0 where
  pub mine : new.mine ≡ own.mine ++ ClearAt at mask ∷ []
  pub clock : new.at ≡ own.at
  pub settled : IsSettled side at other.at

abbrev pub EndsClearWhole : {A : Type 0} → Side → ℕ → ℕ → Result A PassLate → Half → Half → Half → Type 0
EndsClearWhole side at mask (Ok done) own other new = ClearsWhole side at mask own other new
EndsClearWhole side at mask (Err late) own other new = HasKept own new × IsUnsettled side at other.at late

-- a write of a byte, which publishes a clock with it
pub record WritesWhole (window at port byte next : ℕ) (own other new : Half) : Type 0 where
  pub mine : new.mine ≡ own.mine ++ WriteAt at port byte ∷ []
  pub clock : new.at ≡ next
  pub within : IsWithinWindow window at other.at

abbrev pub EndsWriteWhole : {A : Type 0} → ℕ → ℕ → ℕ → ℕ → ℕ → Result A PassLate → Half → Half → Half → Type 0
EndsWriteWhole window at port byte next (Ok done) own other new = WritesWhole window at port byte next own other new
EndsWriteWhole window at port byte next (Err late) own other new = HasKept own new × IsBeyond window at other.at late

-- an advance of the own clock, which tells the other's
pub record AdvancesWhole (at : ℕ) (own other new : Half) : Type 0 where
  pub mine : new.mine ≡ own.mine
  pub clock : new.at ≡ at
  pub known : new.known ≡ other.at
