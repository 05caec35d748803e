-- What was taken of a run: all that the serial run of two machines emits, or the first bytes of it.
use Rattle.std.specs.Prelude.{ℕ, List, ◌++◌, take}
use Rattle.snes_defs.specs.declared.ports.Side.{Side}
use Rattle.snes_defs.specs.declared.ports.Side.TheVariants.{Console, Sound}
use Rattle.side_law.specs.Moves.{Moves}
use Rattle.side_law.specs.Serial.{serial_of}
use Rattle.side_law.specs.SerialRun.{IsOutput}

-- whatever was held before, it is now followed by these bytes
abbrev pub Adds : (before after : List ℕ → Type 0) → List ℕ → Type 0
Adds before after bytes = (had : List ℕ) → before had → after (had ++ bytes)

-- whatever was held before, it is now followed by the first of these bytes, all, some or none of them
abbrev pub AddsSome : (before after : List ℕ → Type 0) → List ℕ → Type 0
AddsSome before after bytes = (had : List ℕ) → before had → (count : ℕ) × after (had ++ take count bytes)

module _ {C S : Type 0} (console_moves : Moves C) (sound_moves : Moves S) (c : C) (s : S) (end : ℕ) (holds : Side → List ℕ → Type 0) where
  -- all that the serial run of two machines emits up to the end stamp was taken, of each side
  pub record TookRun : Type 0 where
    pub video : List ℕ
    pub audio : List ℕ
    pub output : IsOutput console_moves sound_moves (serial_of c s) end video audio
    pub video_taken : holds Console video
    pub audio_taken : holds Sound audio

  -- the first bytes of it were taken
  pub record TookFirst : Type 0 where
    pub video : List ℕ
    pub audio : List ℕ
    pub output : IsOutput console_moves sound_moves (serial_of c s) end video audio
    pub video_count : ℕ
    pub video_taken : holds Console (take video_count video)
    pub audio_count : ℕ
    pub audio_taken : holds Sound (take audio_count audio)
