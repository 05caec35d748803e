-- HOW A JOB ENDS that is played from slices into slices.
use Rattle.std.specs.Prelude.{◌≡◌, ℕ, ◌<◌, List, length, take, Option}
use Rattle.snes_defs.specs.declared.cart.Job.{Job}
use Rattle.snes_defs.specs.declared.ports.Side.{Side}
use Rattle.snes_defs.specs.declared.ports.Side.TheVariants.{Console, Sound}
use Rattle.shelf.specs.declared.shelves.Input.{Input}
use Rattle.snes_commands.specs.Job.{ShowsJob}
use Rattle.memory_player.specs.declared.inputs.End.{End}
use Rattle.memory_player.specs.declared.inputs.End.TheVariants.{Frames, Refused, NoMemory, TooShort}
use Rattle.memory_player.specs.Filled.{in_front}
use Rattle.memory_player.specs.Inputs.{EndsInputs}

-- the slice for a side is shorter than its output
abbrev pub IsShort : (video_slice sound_slice video sound : List ℕ) → Side → Type 0
IsShort video_slice sound_slice video sound Console = length video_slice < length video
IsShort video_slice sound_slice video sound Sound = length sound_slice < length sound

module _ (emits : List ℕ → List ℕ → Type 0) (video_old sound_old video_new sound_new : List ℕ) where
  -- the slices hold all that is emitted in front: so many bytes of video, and of sound
  pub record FilledWhole (video_count sound_count : ℕ) : Type 0 where
    pub video : List ℕ
    pub sound : List ℕ
    pub emitted : emits video sound
    pub video_is : video_new ≡ in_front video video_old
    pub sound_is : sound_new ≡ in_front sound sound_old
    pub video_count_is : video_count ≡ length video
    pub sound_count_is : sound_count ≡ length sound

  -- the slice for a side is shorter than what is emitted: both hold first bytes of theirs in front
  pub record FilledShort (side : Side) : Type 0 where
    pub video : List ℕ
    pub sound : List ℕ
    pub emitted : emits video sound
    pub video_first : ℕ
    pub video_is : video_new ≡ in_front (take video_first video) video_old
    pub sound_first : ℕ
    pub sound_is : sound_new ≡ in_front (take sound_first sound) sound_old
    pub short : IsShort video_old sound_old video sound side

  -- why they do not hold all: one is too short, or there was no memory and they are as they were
  abbrev pub EndsFill : End → Type 0
  EndsFill (TooShort side) = FilledShort side
  EndsFill NoMemory = (video_new ≡ video_old) × (sound_new ≡ sound_old)
  EndsFill _ = ⊥

module _ (emits : Job → List ℕ → List ℕ → Type 0) (told : Input → Option (List ℕ)) (frames : ℕ) (video_old sound_old video_new sound_new : List ℕ) where
  -- the inputs make a job, and the slices hold its whole output in front
  pub record PlayedInto (video_count sound_count : ℕ) : Type 0 where
    pub job : Job
    pub shows : ShowsJob told frames job
    pub filled : FilledWhole (emits job) video_old sound_old video_new sound_new video_count sound_count

  -- they make one, but the slice for a side is shorter than its output
  pub record PlayedShort (side : Side) : Type 0 where
    pub job : Job
    pub shows : ShowsJob told frames job
    pub filled : FilledShort (emits job) video_old sound_old video_new sound_new side

  -- both slices are as they were
  pub record AreAsBefore : Type 0 where
    pub video : video_new ≡ video_old
    pub sound : sound_new ≡ sound_old

  -- why it was not played to its end, and what stands in the slices then
  abbrev pub EndsShort : End → Type 0
  EndsShort Frames = (36000 < frames) × AreAsBefore
  EndsShort (Refused cause) = EndsInputs told (Refused cause) × AreAsBefore
  EndsShort NoMemory = AreAsBefore
  EndsShort (TooShort side) = PlayedShort side
