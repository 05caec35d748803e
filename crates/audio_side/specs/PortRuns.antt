-- Accesses of the sound side's processor over the ports behind it, and many cycles of them in one call: none is a reset, and neither
-- timers nor a sample come at their ends.
use Rattle.std.specs.Prelude.{◌≡◌, ℕ, ◌<◌, List}
use Rattle.spc_tables.specs.declared.access.SpcAccess.{SpcAccess}
use Rattle.side_law.specs.Gone.{Calls, HasMoved, Leads, IsAnswered, IsRefused, Gone}
use Rattle.spc700.specs.Instruction.{SpcState, moved_on, next_of}
use Rattle.spc700.specs.Stands.{Stands}
use Rattle.spc700.specs.declared.processor.Spc.{Spc}
use Rattle.audio_side.specs.Clock.{Clock, stamp_now}
use Rattle.audio_side.specs.Effect.{act_of, effect, given}
use Rattle.audio_side.specs.HardwareState.{HardwareState}
use Rattle.audio_side.specs.Runs.{later}
use Rattle.audio_side.specs.Sound.{sound_moves}

-- an access at a stamp, over ports in a state: it gives the processor a byte, and leaves the hardware so
pub record Makes {Ports : Type 0} (calls : Calls Ports) (at : ℕ) (access : SpcAccess) (b b' : HardwareState) (byte : ℕ) (stand : Ports → Type 0) (p : Ports) : Type 0 where
  pub got : ℕ
  pub small : got < 256
  pub ports : Ports
  pub ports_stand : stand ports
  pub answered : IsAnswered calls at (act_of access) got p ports
  pub gives : given b access got ≡ byte
  pub leaves : effect b access ≡ b'
  -- timer 2 is on or off as it was
  pub on : b'.timer2.on ≡ b.timer2.on

-- the processor's next access
pub record HasMade {Ports : Type 0} (calls : Calls Ports) (at : ℕ) (spc : Spc) (b b' : HardwareState) (stand : Ports → Type 0) (s : SpcState) (p : Ports) : Type 0 where
  pub got : ℕ
  pub small : got < 256
  pub ports : Ports
  pub ports_stand : stand ports
  pub answered : IsAnswered calls at (act_of (next_of s)) got p ports
  pub processor : Stands spc (moved_on s (given b (next_of s) got))
  pub leaves : effect b (next_of s) ≡ b'
  pub on : b'.timer2.on ≡ b.timer2.on

-- from each state in which the processor and the ports stood the next access was made
abbrev pub MakesNext : {Ports : Type 0} → Calls Ports → ℕ → Spc → Spc → HardwareState → HardwareState → (Ports → Type 0) → (Ports → Type 0) → Type 0
MakesNext calls at old new b b' stood stand = (s : SpcState) (p : _) → Stands old s → stood p → HasMade calls at new b b' stand s p

-- or its call was refused
abbrev pub RefusesNext : {Ports : Type 0} → Calls Ports → ℕ → Spc → (Ports → Type 0) → (Ports → Type 0) → Type 0
RefusesNext calls at old stood stand = (s : SpcState) → Stands old s → Leads stood stand (IsRefused calls at (act_of (next_of s)))

-- so many cycles from a clock led from a processor, its hardware and its ports to these
pub record PortRun {Ports : Type 0} (calls : Calls Ports) (until : ℕ) (spc : Spc) (b' : HardwareState) (k : Clock) (n : ℕ) (stand : SpcState → Ports → Type 0)
    (waits : List ℕ) (s : SpcState) (b : HardwareState) (p : Ports) : Type 0 where
  pub to : SpcState
  pub stands : Stands spc to
  pub ports : Ports
  pub ports_stand : stand to ports
  pub gone : Gone sound_moves calls until
      (record { own = record { processor = s; hardware = b; clock = k }; ports = p; waits = waits })
      (record { own = record { processor = to; hardware = b'; clock = later n k }; ports = ports; waits = waits })
  pub on : b'.timer2.on ≡ b.timer2.on

-- there the next access was refused
abbrev pub IsHeld : {Ports : Type 0} → Calls Ports → Clock → ℕ → (Ports → Type 0) → SpcState → Ports → Type 0
IsHeld calls k n stand to q = HasMoved stand (IsRefused calls (stamp_now (later n k)) (act_of (next_of to)) q)
