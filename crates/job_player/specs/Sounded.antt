-- THE SOUND FILE OF A JOB: its run ends, the serial console makes some turns more up to a moment at which a sound file can
-- be taken, and the file has the sound side of that moment.
use Rattle.std.specs.Prelude.{◌≡◌, ◌⊎◌, ℕ, ◌+◌, ◌^◌, ◌%◌, ◌<◌, ◌≤◌, List, []}
use Rattle.snes_defs.specs.declared.cart.Job.{Job}
use Rattle.side_law.specs.Serial.{SerialState, serial_of}
use Rattle.side_law.specs.SerialRun.{RunsFor, after_turns}
use Rattle.serial_console.specs.Joined.{Joined}
use Rattle.serial_console.specs.Serial.{IsAt}
use Rattle.spc_tables.specs.declared.access.SpcAccess.TheVariants.{Inner}
use Rattle.spc700.specs.Instruction.{SpcState, between, left_of, moved_on, next_of, registers_of}
use Rattle.console_steps.specs.ConsoleState.{ConsoleState, console_moves}
use Rattle.console_machine.specs.Side.{ConsoleValue}
use Rattle.console_machine.specs.Side as console_side
use Rattle.audio_side.specs.Sound.{AudioValue, SoundState, sound_moves}
use Rattle.audio_side.specs.Sound as sound_side
use Rattle.state_file.specs.Put.{Put}
use Rattle.sound_file.specs.Bytes.{sound_bytes}
use Rattle.job_player.specs.Start.{console_of, sound_of, end_of, IsAtStart}
use Rattle.job_player.specs.Left.{after}

-- an instruction begins with the registers in hand: what is left to do is all of it
abbrev pub Begins : SpcState → Type 0
Begins s = left_of s ≡ left_of (between (registers_of s))

-- the processor has halted (SLEEP, STOP): an internal cycle is next, and leaves the same to do
pub record IsHalted (s : SpcState) : Type 0 where
  pub inner : next_of s ≡ Inner
  pub stays : (byte : ℕ) → left_of (moved_on s byte) ≡ left_of s

-- a sample comes each 32 cycles, and a timer's tick each 128 or 16: in this cycle they come as in the job; or 100,000
-- cycles have passed since the first one
abbrev pub IsInTime : (first cycle : ℕ) → Type 0
IsInTime first cycle = (cycle % 128 ≡ 0) ⊎ (first + 100000 < cycle)

-- A MOMENT at which a sound file can be taken
abbrev pub IsMoment : (first : ℕ) → SoundState → Type 0
IsMoment first m = IsHalted m.processor ⊎ (Begins m.processor × IsInTime first m.clock.cycle)

-- a serial console that many turns further
unfoldable pub onward : SerialState ConsoleState SoundState → ℕ → SerialState ConsoleState SoundState
onward w more = after_turns console_moves sound_moves w more

-- the search from a state is over after that many turns: there is a moment, or 1,048,576 turns were made
abbrev pub IsSearched : SerialState ConsoleState SoundState → ℕ → Type 0
IsSearched w more = IsMoment w.sound.clock.cycle (onward w more).sound ⊎ (more ≡ 1048576)

-- THE BYTES OF A STATE as a sound file: the registers with which the instruction in hand began, or those after the last
-- one if none is in hand, the hardware of the sound side, and the bytes at its incoming ports
abbrev pub bytes_at : SerialState ConsoleState SoundState → List ℕ
bytes_at w = sound_bytes (registers_of w.sound.processor) w.sound.hardware w.to_sound

-- THE FILE: the serial console of the two sides makes turns until both have reached the end of the job's frames, and
-- some more up to the end of the search; the file has the bytes of the state in which it then is
pub record Sounds (job : Job) (file : List ℕ) : Type 0 where
  pub turns : ℕ
  pub runs : RunsFor console_moves sound_moves (serial_of (console_of job) (sound_of job)) (end_of job) turns
  pub more : ℕ
  pub few : more ≤ 1048576
  pub searched : IsSearched (after job turns) more
  pub bytes_are : file ≡ bytes_at (onward (after job turns) more)

-- What the calls of the search say. A side is at a stamp after 2^62, which no job reaches
abbrev pub IsLate : SerialState ConsoleState SoundState → Type 0
IsLate w = (2 ^ 62 < console_moves.stamp w.console) ⊎ (2 ^ 62 < sound_moves.stamp w.sound)

-- the value is where the search from this state ends
pub record HasGone (w : SerialState ConsoleState SoundState) (s : Joined ConsoleValue AudioValue) : Type 0 where
  pub more : ℕ
  pub few : more ≤ 1048576
  pub searched : IsSearched w more ⊎ IsLate (onward w more)
  pub stands : IsAt console_side.StandsAt sound_side.StandsAt s (onward w more)

-- a file has the bytes of that state
pub record IsTakenFrom (w : SerialState ConsoleState SoundState) (file : List ℕ) : Type 0 where
  pub more : ℕ
  pub few : more ≤ 1048576
  pub searched : IsSearched w more ⊎ IsLate (onward w more)
  pub bytes_are : file ≡ bytes_at (onward w more)

-- both sides are at their starts, and there is memory for the bytes
pub record CanSound (c : ConsoleValue) (s : AudioValue) (end size : ℕ) (to : Put) (job : Job) : Type 0 where
  pub start : IsAtStart c s end size job
  pub none : to.bytes ≡ []
  pub room : to.room ≡ 66048
