-- The serial order as a list of moves.
use Rattle.std.specs.Prelude.{ℕ, zero, suc, List, [], ◌∷◌, ◌++◌, if◌then◌else◌}
use Rattle.snes_defs.specs.declared.ports.Side.TheVariants.{Console, Sound}
use Rattle.side_law.specs.Moves.{Moves}
use Rattle.side_law.specs.Serial.{SerialState, turn, is_console_first}
use Rattle.commute_laws.specs.History.{History, recorded}
use Rattle.run_laws.specs.Legal.{Move, Publish, Step}
use Rattle.commute_laws.specs.OnRun.{serial_run}

module _ {C S : Type 0} (console_moves : Moves C) (sound_moves : Moves S) where
  -- the moves of a turn: both sides publish their stamps, and the earlier one steps. What it
  -- publishes with a write is its stamp after the turn
  abbrev pub moves_of_turn : SerialState (History C) (History S) → List Move
  moves_of_turn w =
      Publish Console (console_moves.stamp w.console.now)
      ∷ Publish Sound (sound_moves.stamp w.sound.now)
      ∷ (if is_console_first (recorded console_moves) (recorded sound_moves) w
      then Step Console (console_moves.stamp (turn (recorded console_moves) (recorded sound_moves) w).console.now)
      else Step Sound (sound_moves.stamp (turn (recorded console_moves) (recorded sound_moves) w).sound.now))
      ∷ []

  -- the moves of the first turns of the serial run, in order
  abbrev pub serial_moves : C → S → ℕ → List Move
  serial_moves console_start sound_start zero = []
  serial_moves console_start sound_start (suc n) =
      serial_moves console_start sound_start n
      ++ moves_of_turn (serial_run console_moves sound_moves console_start sound_start n)
