-- What the run of a job leaves: the state that the serial console of its two sides ends in, as bytes.
use Rattle.std.specs.Prelude.{◌≡◌, ℕ, ◌+◌, List, []}
use Rattle.snes_defs.specs.declared.cart.Job.{Job}
use Rattle.side_law.specs.Serial.{SerialState, serial_of}
use Rattle.side_law.specs.SerialRun.{RunsFor, after_turns}
use Rattle.console_steps.specs.ConsoleState.{ConsoleState, console_moves}
use Rattle.console_machine.specs.Side.{ConsoleValue}
use Rattle.audio_side.specs.Sound.{AudioValue, SoundState, sound_moves}
use Rattle.state_file.specs.State.{state_bytes}
use Rattle.state_file.specs.Put.{Put}
use Rattle.job_player.specs.Start.{console_of, sound_of, end_of, IsAtStart}

-- the serial console of a job after that many turns
abbrev pub after : Job → ℕ → SerialState ConsoleState SoundState
after job turns = after_turns console_moves sound_moves (serial_of (console_of job) (sound_of job)) turns

-- THE BYTES THAT A JOB LEAVES: the serial console of the two sides makes turns until both have reached the end of the job's
-- frames, and the bytes are those of the state in which it then is
pub record Leaves (job : Job) (bytes : List ℕ) : Type 0 where
  pub turns : ℕ
  pub runs : RunsFor console_moves sound_moves (serial_of (console_of job) (sound_of job)) (end_of job) turns
  pub bytes_are : bytes ≡ state_bytes job.frames (after job turns)

-- both sides are at their starts, and there is memory for the bytes
pub record CanLeave (c : ConsoleValue) (s : AudioValue) (end size frames : ℕ) (to : Put) (job : Job) : Type 0 where
  pub start : IsAtStart c s end size job
  pub frames_are : frames ≡ job.frames
  pub none : to.bytes ≡ []
  pub room : to.room ≡ 327680 + job.cart.ram
