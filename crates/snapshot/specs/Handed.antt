-- What a go hands to a sink, behind what the sink held before.
use Rattle.std.specs.Prelude.{◌≡◌, ℕ, List, ◌++◌, take}
use Rattle.snes_defs.specs.declared.cart.Job.{Job}
use Rattle.snes_defs.specs.declared.ports.Side.{Side}
use Rattle.snes_defs.specs.declared.ports.Side.TheVariants.{Console, Sound}
use Rattle.snapshot.specs.declared.rewind.Rewind.{Rewind}
use Rattle.plan_drive.specs.Paths.{Path, Paths}
use Rattle.snapshot.specs.Path.{PathEmits}
use Rattle.snapshot.specs.Positions.{IsRested, IsBeyond}

module _ (job : Job) (n : ℕ) (paths : Paths) (before : Path) (base : Side → List ℕ) (holds : Side → List ℕ → Type 0) where
  -- the whole of what the path emits beyond the path before it, and the rewinder stands at the end of the path
  pub record Gave (r : Rewind) : Type 0 where
    pub video : List ℕ
    pub audio : List ℕ
    pub beyond : IsBeyond job n before paths.path video audio
    pub rested : IsRested job n paths r
    pub video_taken : holds Console (base Console ++ video)
    pub audio_taken : holds Sound (base Sound ++ audio)

  -- the first bytes of it: behind what the path before emits they are a beginning of what the path emits
  pub record GaveSome : Type 0 where
    pub first_video : List ℕ
    pub first_audio : List ℕ
    pub first : PathEmits job n before first_video first_audio
    pub whole_video : List ℕ
    pub whole_audio : List ℕ
    pub whole : PathEmits job n paths.path whole_video whole_audio
    pub video : List ℕ
    pub video_count : ℕ
    pub video_is : first_video ++ video ≡ take video_count whole_video
    pub video_taken : holds Console (base Console ++ video)
    pub audio : List ℕ
    pub audio_count : ℕ
    pub audio_is : first_audio ++ audio ≡ take audio_count whole_audio
    pub audio_taken : holds Sound (base Sound ++ audio)
