-- What the run of a job leaves, of the machines that it ends with.
use Rattle.std.proofs.Common.{◌≡◌, ◌+◌, ◌≤◌, ℕ, zero, suc, List, refl, ap, sym, subst, ◌∙◌, lit<, arith}
use Rattle.snes_defs.specs.declared.cart.Job.{Job}
use Rattle.snes_defs.specs.Script.{Script}
use Rattle.side_law.specs.Serial.{SerialState, serial_of, turn}
use Rattle.side_law.specs.SerialRun.{after_turns}
use Rattle.side_law.proofs.SerialKeeps.{TurnOf, by_console, by_sound, turn_of, turn_console, turn_sound}
use Rattle.serial_console.specs.Joined.{Joined}
use Rattle.serial_console.specs.Serial.{IsAt}
use Rattle.console_bus.specs.declared.cart_board.CartBoard.{CartBoard}
use Rattle.console_bus.specs.BusState.{BusState, board_of}
use Rattle.console_steps.specs.ConsoleState.{ConsoleState, console_moves, due_of}
use Rattle.console_machine.specs.Side.{ConsoleValue}
use Rattle.console_machine.specs.Side as console_side
use Rattle.audio_side.specs.Sound.{AudioValue, SoundState, sound_moves}
use Rattle.audio_side.specs.Sound as sound_side
use Rattle.run_drive.specs.Ended.{HasEnded, IsLeft}
use Rattle.snapshot.proofs.Effects.{rom_of}
use Rattle.snapshot.proofs.ConsoleStates.{IsOwn, step_own}
use Rattle.state_file.specs.Put.{Put}
use Rattle.state_file.specs.State.{state_bytes}
use Rattle.job_player.specs.Start.{console_of, sound_of}
use Rattle.job_player.specs.Left.{after, Leaves, CanLeave}
use Rattle.job_player.proofs.Ends.{job_is_playable}

-- a serial run keeps the cartridge
module _ (board : CartBoard) (script : Script) (rom : List ℕ) where
  turn_own : (w : SerialState ConsoleState SoundState) → IsOwn board script rom w.console.rest → IsOwn board script rom (turn console_moves sound_moves w).console.rest
  turn_own w h = go (turn_of console_moves sound_moves w)
    where
      go : TurnOf console_moves sound_moves w → IsOwn board script rom (turn console_moves sound_moves w).console.rest
      go (by_console le e) =
          subst (λ (v : SerialState ConsoleState SoundState). IsOwn board script rom v.console.rest) (sym (turn_console console_moves sound_moves w e))
          (step_own board script rom w.console (due_of w.console) _ h)
      go (by_sound lt e) =
          subst (λ (v : SerialState ConsoleState SoundState). IsOwn board script rom v.console.rest) (sym (turn_sound console_moves sound_moves w e)) h

  turns_own : (w : SerialState ConsoleState SoundState) (n : ℕ) → IsOwn board script rom w.console.rest → IsOwn board script rom (after_turns console_moves sound_moves w n).console.rest
  turns_own w zero h = h
  turns_own w (suc n) h = turn_own (after_turns console_moves sound_moves w n) (turns_own w n h)

board_stays : (job : Job) (turns : ℕ) → (after job turns).console.rest.board ≡ board_of job.cart
board_stays job turns =
    (turns_own (board_of job.cart) job.script (rom_of (console_of job).rest) (serial_of (console_of job) (sound_of job)) turns
    (record { board_is = refl; script_is = refl; rom_is = refl; port = lit< tt })).board_is

module _ (c : ConsoleValue) (s : AudioValue) (end size frames : ℕ) (to : Put) (serial : Joined ConsoleValue AudioValue)
    (ended : (m : ConsoleState) (n : SoundState) → console_side.StandsAt c m → sound_side.StandsAt s n → HasEnded console_moves sound_moves console_side.StandsAt sound_side.StandsAt m n end serial) where
  -- there is memory for the RAM of the cartridge
  pub left_fits : (job : Job) → CanLeave c s end size frames to job → 327680 + serial.console.rest.board.ram ≤ to.room
  left_fits job h =
      let e = ended (console_of job) (sound_of job) h.start.console h.start.sound in
      let same = ap (λ (b : BusState). b.board.ram) e.stands.console.at.rest ∙ ap (λ (b : CartBoard). b.ram) (board_stays job e.turns) in
      omega (arith, same, h.room)

  -- the bytes of the state in which the run has ended
  pub left_is : (bytes : List ℕ) → ((w : SerialState ConsoleState SoundState) → IsAt console_side.StandsAt sound_side.StandsAt serial w → bytes ≡ state_bytes frames w)
      → (job : Job) → CanLeave c s end size frames to job → Leaves job bytes
  left_is bytes put job h =
      let e = subst (λ n. HasEnded console_moves sound_moves console_side.StandsAt sound_side.StandsAt (console_of job) (sound_of job) n serial) h.start.end_is
      (ended (console_of job) (sound_of job) h.start.console h.start.sound) in
      record {
        turns = e.turns;
        runs = e.runs;
        bytes_are = put (after job e.turns) e.stands ∙ ap (λ n. state_bytes n (after job e.turns)) h.frames_are;
      }

-- the run of a job leaves a state
pub job_leaves : (job : Job) → IsLeft (Leaves job)
job_leaves job =
    let out = (job_is_playable job).emitted in
    record { bytes = state_bytes job.frames (after job out.turns); left = record { turns = out.turns; runs = out.runs; bytes_are = refl } }
