-- The serial run of a path's job, which is played in the region of the job and by the first profile.
use Rattle.std.specs.Prelude.{ℕ, List}
use Rattle.snes_defs.specs.declared.cart.Job.{Job}
use Rattle.snes_defs.specs.declared.cart.Cart.{Cart}
use Rattle.snes_defs.specs.declared.region.Region.{Region}
use Rattle.snes_defs.specs.declared.profile.Profile.TheVariants.{First}
use Rattle.snes_defs.specs.Script.{frames_of}
use Rattle.clock_ratio.specs.Stamp.{end_stamp_of}
use Rattle.side_law.specs.Serial.{SerialState, serial_of}
use Rattle.side_law.specs.SerialRun.{IsOutput}
use Rattle.console_steps.specs.ConsoleState.{ConsoleState, console_start, console_moves}
use Rattle.audio_side.specs.Sound.{SoundState, sound_start, sound_moves}
use Rattle.audio_side.specs.Playing.{sound_with_room}
use Rattle.plan_drive.specs.Paths.{Path, path_script}

-- both sides before their first step, with this memory
abbrev pub console_of_path : Region → Cart → ℕ → Path → ConsoleState
console_of_path region cart n path = console_start cart (path_script region n path) region

abbrev pub sound_of_path : Region → ℕ → List ℕ → List ℕ → List ℕ → SoundState
sound_of_path region n resets boot table = sound_with_room (sound_start region First resets boot table) n

abbrev pub start_of : Job → ℕ → Path → SerialState ConsoleState SoundState
start_of job n path =
    serial_of (console_of_path job.region job.cart n path) (sound_of_path job.region n path.resets job.boot job.table)

abbrev pub end_of_path : Region → Path → ℕ
end_of_path region path = end_stamp_of region (frames_of path.spans)

-- the serial run of a path's job emits this video and this audio
abbrev pub PathEmits : Job → ℕ → Path → List ℕ → List ℕ → Type 0
PathEmits job n path = IsOutput console_moves sound_moves (start_of job n path) (end_of_path job.region path)
