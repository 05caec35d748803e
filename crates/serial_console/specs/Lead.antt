-- Two machines of which each may be some quiet steps ahead of a serial console. A quiet step touches no port, so
-- it can be made before steps of the other side that stand at earlier stamps.
use Rattle.std.specs.Prelude.{◌≡◌, ℕ, zero, suc, ◌<◌, ◌≤◌, ◌⊎◌, List, [], ◌++◌}
use Rattle.snes_defs.specs.declared.ports.Act.TheVariants.{Quiet}
use Rattle.side_law.specs.Moves.{Moves}
use Rattle.side_law.specs.Serial.{SerialState}
use Rattle.side_law.specs.Sides.{SideState, side_step, side_bytes}
use Rattle.side_law.specs.SerialRun.{IsUnderway}
use Rattle.serial_console.specs.Joined.{Joined}
use Rattle.serial_console.specs.Serial.{IsAt}

module _ {State : Type 0} (moves : Moves State) (end : ℕ) where
  -- so many quiet steps lead from a state to another and emit these bytes, each made before the end, at a
  -- stamp that is not above that of the next
  abbrev pub QuietSteps : ℕ → State → State → List ℕ → Type 0
  QuietSteps zero from to bytes = (from ≡ to) × (bytes ≡ [])
  QuietSteps (suc n) from to bytes =
      (moves.act from ≡ Quiet) × (moves.stamp from < end) × (moves.stamp from ≤ moves.stamp (moves.next from 0))
      × ((later : List ℕ) × (moves.bytes from 0 ++ later ≡ bytes) × QuietSteps n (moves.next from 0) to later)

  pub record IsAhead (from to : State) (bytes : List ℕ) : Type 0 where
    pub steps : ℕ
    pub quiet : QuietSteps steps from to bytes

-- a serial console has made turns from `from`, none of them past the end. `at` has the same bytes at the ports, and
-- each of its machines is that of the serial console or some quiet steps ahead of it. With those steps each side
-- has emitted these bytes
pub record IsLead {C S : Type 0} (console_moves : Moves C) (sound_moves : Moves S) (end : ℕ)
    (from at : SerialState C S) (video audio : List ℕ) : Type 0 where
  pub turned : SerialState C S
  pub turned_video : List ℕ
  pub turned_audio : List ℕ
  pub underway : IsUnderway console_moves sound_moves from end turned turned_video turned_audio
  pub early_video : List ℕ
  pub console : IsAhead console_moves end turned.console at.console early_video
  pub early_audio : List ℕ
  pub sound : IsAhead sound_moves end turned.sound at.sound early_audio
  pub to_sound : turned.to_sound ≡ at.to_sound
  pub to_console : turned.to_console ≡ at.to_console
  pub video_is : turned_video ++ early_video ≡ video
  pub audio_is : turned_audio ++ early_audio ≡ audio

-- the value stands at such a place
pub record IsLed {C S CState SState : Type 0} (console_moves : Moves CState) (sound_moves : Moves SState)
    (console_stands : C → CState → Type 0) (sound_stands : S → SState → Type 0) (end : ℕ)
    (from : SerialState CState SState) (s : Joined C S) (video audio : List ℕ) : Type 0 where
  pub at : SerialState CState SState
  pub stands : IsAt console_stands sound_stands s at
  pub lead : IsLead console_moves sound_moves end from at video audio

module _ {State : Type 0} (moves : Moves State) where
  -- a step before the end, which is quiet, or made before the stamp up to which this side is the earlier one
  pub record MayStep (first end : ℕ) (p : SideState State) : Type 0 where
    pub before : moves.stamp p.own < end
    pub may : (moves.act p.own ≡ Quiet) ⊎ (moves.stamp p.own < first)
    pub rises : moves.stamp p.own ≤ moves.stamp (side_step moves p).own

  -- so many such steps
  abbrev pub SideSteps : ℕ → ℕ → ℕ → SideState State → SideState State → List ℕ → Type 0
  SideSteps first end zero p q bytes = (p ≡ q) × (bytes ≡ [])
  SideSteps first end (suc n) p q bytes =
      MayStep first end p
      × ((later : List ℕ) × (side_bytes moves p ++ later ≡ bytes) × SideSteps first end n (side_step moves p) q later)

-- from a state in which a machine stood it has made such steps to one in which it stands. The bytes at its ports
-- are those after them, and what they emitted waits behind what waited
pub record HasLed {State : Type 0} (moves : Moves State) (first end : ℕ) (stands : State → Type 0)
    (waited waits incoming outgoing : List ℕ) (p : SideState State) : Type 0 where
  pub to : State
  pub now_stands : stands to
  pub steps : ℕ
  pub emitted : List ℕ
  pub made : SideSteps moves first end steps p (record { own = to; incoming = incoming; outgoing = outgoing }) emitted
  pub waits_is : waited ++ emitted ≡ waits
