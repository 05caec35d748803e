-- What the goes of a plan emit, one after another.
use Rattle.std.specs.Prelude.{◌≡◌, ℕ, List, [], ◌∷◌, ◌++◌}
use Rattle.snes_defs.specs.declared.cart.Job.{Job}
use Rattle.input_files.specs.declared.plan.PlanStep.{PlanStep}
use Rattle.input_files.specs.declared.plan.PlanStep.TheVariants.{Go, Keep, Back, Reset}
use Rattle.plan_drive.specs.Paths.{Path, Paths, no_paths, after_step, path_job, room_of}

-- by what the run of a path's job emits
module _ (emits : (path : Path) → (video audio : List ℕ) → Type 0) where
  -- what the run of a longer path has beyond that of a shorter one
  pub record Extends (before path : Path) (video audio : List ℕ) : Type 0 where
    pub first_video : List ℕ
    pub first_audio : List ℕ
    pub first : emits before first_video first_audio
    pub whole : emits path (first_video ++ video) (first_audio ++ audio)

  -- THE JOIN, over the goes of some steps in order, of what the run of the path after the go has beyond that of the path
  -- before it
  abbrev pub Joins : List PlanStep → Paths → (video audio : List ℕ) → Type 0
  Joins [] paths video audio = (video ≡ []) × (audio ≡ [])
  Joins (Go count pad1 pad2 ∷ rest) paths video audio =
      (go_video : List ℕ) × (go_audio : List ℕ) × (more_video : List ℕ) × (more_audio : List ℕ)
      × Extends paths.path (after_step paths (Go count pad1 pad2)).path go_video go_audio
      × Joins rest (after_step paths (Go count pad1 pad2)) more_video more_audio
      × (go_video ++ more_video ≡ video)
      × (go_audio ++ more_audio ≡ audio)
  Joins (Keep slot ∷ rest) paths video audio = Joins rest (after_step paths (Keep slot)) video audio
  Joins (Back slot ∷ rest) paths video audio = Joins rest (after_step paths (Back slot)) video audio
  Joins (Reset ∷ rest) paths video audio = Joins rest (after_step paths Reset) video audio

-- WHAT A PLAN EMITS that is played on the machines of a job, by what runs of jobs emit: each piece is that of the
-- uninterrupted run of its path, however the plan went back
abbrev pub PlanEmits : (Job → List ℕ → List ℕ → Type 0) → Job → List PlanStep → List ℕ → List ℕ → Type 0
PlanEmits emits job steps = Joins (λ path. emits (path_job job (room_of steps) path)) steps no_paths
