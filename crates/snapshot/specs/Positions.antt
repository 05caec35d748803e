-- When a rewinder stands where a path ends, and when it is on its way along a path.
use Rattle.std.specs.Prelude.{◌≡◌, ℕ, ◌+◌, ◌<◌, ◌≤◌, List, [], ◌++◌, length, drop, slice_index_or}
use Rattle.snes_defs.specs.declared.cart.Job.{Job}
use Rattle.snes_defs.specs.Script.{RiseWithin, frames_of}
use Rattle.side_law.specs.Serial.{SerialState}
use Rattle.side_law.specs.SerialRun.{IsPast, IsUnderway}
use Rattle.snes_defs.specs.declared.ports.Side.{Side}
use Rattle.audio_side.specs.Clock.{reset_frames}
use Rattle.serial_console.specs.Serial.{IsAt}
use Rattle.serial_console.specs.Lead.{IsLed}
use Rattle.console_steps.specs.ConsoleState.{ConsoleState, console_moves}
use Rattle.console_machine.specs.Side as console_side
use Rattle.console_machine.specs.Playing.{value_with_room}
use Rattle.audio_side.specs.Sound.{SoundState, sound_moves}
use Rattle.audio_side.specs.Sound as sound_side
use Rattle.audio_side.specs.Playing.{audio_with_room}
use Rattle.snapshot.specs.declared.run.Run.{Run}
use Rattle.snapshot.specs.declared.rewind.Rewind.{Rewind}
use Rattle.plan_drive.specs.Paths.{Path, Paths}
use Rattle.plan_drive.specs.Joins.{Extends}
use Rattle.snapshot.specs.Path.{PathEmits, start_of, end_of_path}

-- THE MACHINES OF A PATH at its end: they stand where the serial run of the path's job ends, which has emitted this
-- video and this audio, and no byte waits
pub record IsDone (job : Job) (n : ℕ) (path : Path) (r : Run) (video audio : List ℕ) : Type 0 where
  pub at : SerialState ConsoleState SoundState
  pub stands : IsAt console_side.StandsAt sound_side.StandsAt r.serial at
  pub underway : IsUnderway console_moves sound_moves (start_of job n path) (end_of_path job.region path) at video audio
  pub past : IsPast console_moves sound_moves (end_of_path job.region path) at
  pub no_video : r.serial.console.waiting ≡ []
  pub no_audio : r.serial.sound.waiting ≡ []
  pub end_is : r.end ≡ end_of_path job.region path
  pub few : frames_of path.spans ≤ 36000
  pub room : length path.spans ≤ n
  pub reset_room : length path.resets ≤ n
  pub rise : RiseWithin 1 (frames_of path.spans) path.resets
  pub in_order : reset_frames path.resets 36001 ≡ path.resets

-- what can be copied into what: one cartridge, one boot ROM and table, and room for the spans and the resets
pub record CanCopy (from into : Run) : Type 0 where
  pub board : from.serial.console.rest.board ≡ into.serial.console.rest.board
  pub rom : drop (131072 + from.serial.console.rest.board.ram) from.serial.console.rest.memory ≡ drop (131072 + from.serial.console.rest.board.ram) into.serial.console.rest.memory
  pub room : length from.serial.console.rest.script.spans ≤ into.serial.console.rest.script.room
  pub reset_room : length from.serial.console.rest.script.resets ≤ into.serial.console.rest.script.room
  pub boot : from.serial.sound.hardware.boot ≡ into.serial.sound.hardware.boot
  pub table : from.serial.sound.hardware.table ≡ into.serial.sound.hardware.table
  pub sound_room : length from.serial.sound.clock.resets ≤ into.serial.sound.clock.room

-- a copy, which keeps its room for spans and resets on both sides, and its count of steps
abbrev pub copy_of : Run → (n sound_room stepped : ℕ) → Run
copy_of r n sound_room stepped = record {
  serial = record {
    console = value_with_room r.serial.console n;
    sound = audio_with_room r.serial.sound sound_room;
    to_sound = r.serial.to_sound;
    to_console = r.serial.to_console;
  };
  end = r.end;
  stepped = stepped;
}

-- the serial machine that a rewinder is
abbrev pub StandsIn : Rewind → SerialState ConsoleState SoundState → Type 0
StandsIn r w = IsAt console_side.StandsAt sound_side.StandsAt r.run.serial w

-- THE SLOTS hold the machines of their paths, each at its end
abbrev pub HoldsPath : Job → ℕ → Path → Run → Type 0
HoldsPath job n path r = (video : List ℕ) × (audio : List ℕ) × IsDone job n path r video audio

abbrev pub AreHeld : Job → ℕ → Paths → Rewind → Type 0
AreHeld job n paths r = (k : ℕ) (other : Run) → k < length r.slots.items → HoldsPath job n (paths.held k) (slice_index_or r.slots.items k other)

abbrev pub slot_count : Rewind → ℕ
slot_count r = length r.slots.items

-- the bytes that wait
abbrev pub video_waiting : Rewind → List ℕ
video_waiting r = r.run.serial.console.waiting

abbrev pub audio_waiting : Rewind → List ℕ
audio_waiting r = r.run.serial.sound.waiting

-- a rewinder stands at the end of its path, with memory for n spans
pub record IsRested (job : Job) (n : ℕ) (paths : Paths) (r : Rewind) : Type 0 where
  pub now : HoldsPath job n paths.path r.run
  pub slots : AreHeld job n paths r

-- IT IS UNDER WAY along its path, of which the path `before` was gone when the last span began; since then it has
-- handed out this video and this audio
pub record IsGoing (job : Job) (n : ℕ) (paths : Paths) (before : Path) (video audio : List ℕ) (r : Rewind) : Type 0 where
  pub first_video : List ℕ
  pub first_audio : List ℕ
  pub first : PathEmits job n before first_video first_audio
  pub led : IsLed console_moves sound_moves console_side.StandsAt sound_side.StandsAt (end_of_path job.region paths.path) (start_of job n paths.path) r.run.serial
      ((first_video ++ video) ++ r.run.serial.console.waiting) ((first_audio ++ audio) ++ r.run.serial.sound.waiting)
  pub end_is : r.run.end ≡ end_of_path job.region paths.path
  pub few : frames_of paths.path.spans ≤ 36000
  pub room : length paths.path.spans ≤ n
  pub reset_room : length paths.path.resets ≤ n
  pub rise : RiseWithin 1 (frames_of paths.path.spans) paths.path.resets
  pub in_order : reset_frames paths.path.resets 36001 ≡ paths.path.resets
  pub slots : AreHeld job n paths r

-- WHAT A GO HANDS OUT: what the run of the path has beyond that of the path before it
abbrev pub IsBeyond : Job → ℕ → (before path : Path) → (video audio : List ℕ) → Type 0
IsBeyond job n = Extends (PathEmits job n)
