-- What was taken of a run of a job, by what such a run emits.
use Rattle.std.specs.Prelude.{ℕ, List, take}
use Rattle.snes_defs.specs.declared.ports.Side.{Side}
use Rattle.snes_defs.specs.declared.ports.Side.TheVariants.{Console, Sound}

-- a run comes to its end, and emits some video and some audio
pub record IsPlayable (emits : List ℕ → List ℕ → Type 0) : Type 0 where
  pub video : List ℕ
  pub audio : List ℕ
  pub emitted : emits video audio

module _ (emits : List ℕ → List ℕ → Type 0) (holds : Side → List ℕ → Type 0) where
  -- all that the run emits was taken, of each side
  pub record PlayedWhole : Type 0 where
    pub video : List ℕ
    pub audio : List ℕ
    pub emitted : emits video audio
    pub video_taken : holds Console video
    pub audio_taken : holds Sound audio

  -- the first bytes of it were taken
  pub record PlayedFirst : Type 0 where
    pub video : List ℕ
    pub audio : List ℕ
    pub emitted : emits video audio
    pub video_count : ℕ
    pub video_taken : holds Console (take video_count video)
    pub audio_count : ℕ
    pub audio_taken : holds Sound (take audio_count audio)
