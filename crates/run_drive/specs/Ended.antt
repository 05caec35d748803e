-- Where the serial run of two machines ends.
use Rattle.std.specs.Prelude.{ℕ, List}
use Rattle.side_law.specs.Moves.{Moves}
use Rattle.side_law.specs.Serial.{serial_of}
use Rattle.side_law.specs.SerialRun.{RunsFor, after_turns}
use Rattle.serial_console.specs.Joined.{Joined}
use Rattle.serial_console.specs.Serial.{IsAt}

-- the value stands where the serial run of two machines up to the end stamp ends: after all its turns, and no turn more
pub record HasEnded {C S CState SState : Type 0} (console_moves : Moves CState) (sound_moves : Moves SState) (console_stands : C → CState → Type 0) (sound_stands : S → SState → Type 0)
    (c : CState) (s : SState) (end : ℕ) (serial : Joined C S) : Type 0 where
  pub turns : ℕ
  pub runs : RunsFor console_moves sound_moves (serial_of c s) end turns
  pub stands : IsAt console_stands sound_stands serial (after_turns console_moves sound_moves (serial_of c s) turns)

-- the bytes of a state, if a job's run leaves one
pub record IsLeft (leaves : List ℕ → Type 0) : Type 0 where
  pub bytes : List ℕ
  pub left : leaves bytes
