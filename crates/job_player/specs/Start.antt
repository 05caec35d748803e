-- What a run of a job emits, and that a console stands at its start.
use Rattle.std.specs.Prelude.{◌≡◌, ℕ, ◌≤◌, List, [], vec_len}
use Rattle.snes_defs.specs.declared.cart.Job.{Job}
use Rattle.clock_ratio.specs.Stamp.{end_stamp_of}
use Rattle.side_law.specs.Serial.{serial_of}
use Rattle.side_law.specs.SerialRun.{IsOutput}
use Rattle.port_log.specs.PortsKnown.{PortsKnown}
use Rattle.port_log.specs.Wholes.{WholeValue, new_whole}
use Rattle.word_log.specs.WordsKnown.{WordsKnown}
use Rattle.word_log.specs.Wholes as words
use Rattle.console_steps.specs.ConsoleState.{ConsoleState, console_start, console_moves}
use Rattle.console_machine.specs.Side.{ConsoleValue}
use Rattle.console_machine.specs.Side as console_side
use Rattle.audio_side.specs.Sound.{AudioValue, SoundState, sound_start, sound_moves}
use Rattle.audio_side.specs.Sound as sound_side
use Rattle.job_player.specs.declared.turning.Turning.{Turning}

-- the console side before its first step: the job's cartridge and script, in the job's region
abbrev pub console_of : Job → ConsoleState
console_of job = console_start job.cart job.script job.region

-- the sound side before its first step: the job's boot ROM and table, the profile and the resets of its script, in
-- the job's region
abbrev pub sound_of : Job → SoundState
sound_of job = sound_start job.region job.script.profile job.script.resets job.boot job.table

-- the end of the job's frames
abbrev pub end_of : Job → ℕ
end_of job = end_stamp_of job.region job.frames

-- THE OUTPUT OF A JOB: the serial console of the two sides, from their starts to the end of the job's
-- frames, emits this video and this audio
abbrev pub Emits : Job → List ℕ → List ℕ → Type 0
Emits job = IsOutput console_moves sound_moves (serial_of (console_of job) (sound_of job)) (end_of job)

-- both sides stand at their starts, no byte waits in them, the end is that of the job's frames, and the
-- buffer has room for all that can wait
pub record IsAtStart (c : ConsoleValue) (s : AudioValue) (end size : ℕ) (job : Job) : Type 0 where
  pub few : job.frames ≤ 36000
  pub console : console_side.StandsAt c (console_of job)
  pub sound : sound_side.StandsAt s (sound_of job)
  pub no_video : c.waiting ≡ []
  pub no_audio : s.waiting ≡ []
  pub end_is : end ≡ end_of job
  pub size_is : size ≡ 65536

-- the console is at its start, and the ports between its sides, of either wire, are new and of the job's region
pub record IsReady (c : ConsoleValue) (s : AudioValue) (ports : PortsKnown) (both : WholeValue) (of_words : WordsKnown) (word_both : words.WholeValue) (end size : ℕ) (job : Job) : Type 0 where
  pub start : IsAtStart c s end size job
  pub region_is : ports.region ≡ job.region
  pub both_are : both ≡ new_whole ports
  pub words_region_is : of_words.region ≡ job.region
  pub words_are : word_both ≡ words.new_whole of_words

-- the console and the ports of two workers are ready
abbrev pub CanTurn : Turning → Job → Type 0
CanTurn t job = IsReady t.start.console t.start.sound t.ports t.whole t.words t.word_whole t.start.end (vec_len t.start.buffer) job
