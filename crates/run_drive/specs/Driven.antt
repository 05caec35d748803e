-- What was handed on of a serial run since it stood somewhere.
use Rattle.std.specs.Prelude.{◌≡◌, ℕ, List, ◌++◌}
use Rattle.snes_defs.specs.declared.ports.Side.{Side}
use Rattle.snes_defs.specs.declared.ports.Side.TheVariants.{Console, Sound}
use Rattle.side_law.specs.Moves.{Moves}
use Rattle.side_law.specs.Serial.{serial_of}
use Rattle.side_law.specs.SerialRun.{IsOutput}
use Rattle.serial_console.specs.Joined.{Joined}
use Rattle.serial_console.specs.Lead.{IsLed}

-- these are all bytes of a side, of which the first had been emitted before; the others were taken since, behind the base
abbrev pub Since : (now : Side → List ℕ → Type 0) (base first : Side → List ℕ) → Side → List ℕ → Type 0
Since now base first side bytes = (more : List ℕ) × (first side ++ more ≡ bytes) × now side (base side ++ more)

-- the value stands at a place of the run, and all that was emitted was taken
pub record TookOn {C S CState SState : Type 0} (console_moves : Moves CState) (sound_moves : Moves SState) (console_stands : C → CState → Type 0) (sound_stands : S → SState → Type 0)
    (c : CState) (s : SState) (end : ℕ) (serial : Joined C S) (holds : Side → List ℕ → Type 0) : Type 0 where
  pub video : List ℕ
  pub audio : List ℕ
  pub led : IsLed console_moves sound_moves console_stands sound_stands end (serial_of c s) serial video audio
  pub video_taken : holds Console video
  pub audio_taken : holds Sound audio

-- the run of two machines comes to its end
abbrev pub Ends : {CState SState : Type 0} → Moves CState → Moves SState → CState → SState → ℕ → Type 0
Ends console_moves sound_moves c s end = (video : List ℕ) × (audio : List ℕ) × IsOutput console_moves sound_moves (serial_of c s) end video audio

-- the bytes of both sides
abbrev pub by_side : List ℕ → List ℕ → Side → List ℕ
by_side video audio Console = video
by_side video audio Sound = audio
