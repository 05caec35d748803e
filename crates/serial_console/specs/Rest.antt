-- The sound side behind the console's ports: it runs up to each call, and then the call is made on the eight bytes.
use Rattle.std.specs.Prelude.{◌≡◌, ℕ, suc, ◌-◌, ◌^◌, ◌<◌, ◌≤◌, ◌==◌, nat_le, List, ◌++◌, length, if◌then◌else◌}
use Rattle.snes_defs.specs.declared.ports.Act.{Act}
use Rattle.side_law.specs.Gone.{Calls}
use Rattle.side_law.specs.Moves.{Moves}
use Rattle.side_law.specs.Serial.{SerialState, got_of, incoming_after, outgoing_after}
use Rattle.serial_console.specs.declared.behind.Rest.{Rest}
use Rattle.serial_console.specs.Lead.{IsLead, SideSteps}

-- the sound side, the eight bytes, and the emitted bytes that wait
pub record RestState (S : Type 0) : Type 0 where
  pub sound : S
  pub to_sound : List ℕ
  pub to_console : List ℕ
  pub audio : List ℕ
  -- no step begins at this stamp or later
  pub end : ℕ
  -- the stamps of the last steps that emitted, of each side
  pub sound_last : ℕ
  pub console_last : ℕ

-- the value is in this state
pub record StandsBehind {V S : Type 0} (stands : V → S → Type 0) (waiting : V → List ℕ)
    (r : Rest V) (w : RestState S) : Type 0 where
  pub sound : stands r.sound w.sound
  pub to_sound : r.bytes.incoming ≡ w.to_sound
  pub to_console : r.bytes.outgoing ≡ w.to_console
  pub audio : waiting r.sound ≡ w.audio
  pub end : r.end ≡ w.end
  pub sound_last : r.bytes.last ≡ w.sound_last
  pub console_last : r.last ≡ w.console_last

-- calls come up to the end, and none where that is later than a machine runs
abbrev pub limit_of : ℕ → ℕ
limit_of end = if nat_le end (2 ^ 62) then suc end else 0

module _ {S : Type 0} (moves : Moves S) (most : ℕ) where
  -- by its stamp and the bytes that wait the sound side has gone on
  pub record HasGrown (w v : RestState S) : Type 0 where
    pub forward : moves.stamp w.sound ≤ moves.stamp v.sound
    pub longer : length w.audio ≤ length v.audio
    pub few : length w.audio ≤ most → length v.audio ≤ most
    -- if it emitted, it began before the end, and the last stamp is that of such a step
    pub begins : length w.audio < length v.audio
        → (moves.stamp w.sound < w.end) × (moves.stamp w.sound < moves.stamp v.sound)
    pub last : length w.audio < length v.audio → (v.sound_last < w.end) × (v.sound_last < moves.stamp v.sound)
    pub last_stays : length v.audio ≡ length w.audio → v.sound_last ≡ w.sound_last
    pub end_is : w.end ≡ v.end

  -- the sound side has made steps: any before `at`, up to which it is the earlier side, and quiet ones from there on
  pub record HasFollowed (at : ℕ) (w v : RestState S) : Type 0 where
    pub steps : ℕ
    pub emitted : List ℕ
    pub made : SideSteps moves at w.end steps (record { own = w.sound; incoming = w.to_sound; outgoing = w.to_console })
        (record { own = v.sound; incoming = v.to_sound; outgoing = v.to_console }) emitted
    pub audio_is : w.audio ++ emitted ≡ v.audio
    pub grown : HasGrown w v
    pub console_last : w.console_last ≡ v.console_last

  -- it has come to the stamp of the console's call, which is made then
  pub record IsByRest (at : ℕ) (act : Act) (got : ℕ) (w v : RestState S) : Type 0 where
    pub mid : RestState S
    pub followed : HasFollowed at w mid
    pub there : at ≤ moves.stamp mid.sound
    pub got_is : got ≡ got_of act mid.to_console
    pub after : record mid {
      to_sound = outgoing_after act mid.to_sound;
      to_console = incoming_after act mid.to_console;
    } ≡ v

  -- it has not come there, since bytes of it wait
  pub record IsBehind (cap at : ℕ) (w v : RestState S) : Type 0 where
    pub followed : HasFollowed at w v
    pub late : moves.stamp v.sound < at
    pub waits : most ≤ cap → 0 < length v.audio

  -- the console emits only while none of its own bytes wait
  abbrev pub rest_calls : ℕ → Calls (RestState S)
  rest_calls cap = record {
    answers = IsByRest;
    refuses = λ at act w v. IsBehind cap at w v;
    room = λ w waiting. if waiting == 0 then 2 ^ 64 - 1 else 0;
    told = λ at waiting w v. record w { console_last = at } ≡ v;
  }

-- the console and the sound side behind it are at a place that is some quiet steps ahead of a serial console
pub record IsLedOver {C S CState SState : Type 0} (console_moves : Moves CState) (sound_moves : Moves SState)
    (console_stands : C → CState → Type 0) (sound_stands : S → SState → Type 0)
    (from : SerialState CState SState) (c : C) (r : Rest S) (video audio : List ℕ) : Type 0 where
  pub at : SerialState CState SState
  pub console : console_stands c at.console
  pub sound : sound_stands r.sound at.sound
  pub to_sound : r.bytes.incoming ≡ at.to_sound
  pub to_console : r.bytes.outgoing ≡ at.to_console
  pub lead : IsLead console_moves sound_moves r.end from at video audio
