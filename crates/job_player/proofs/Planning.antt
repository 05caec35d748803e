-- The memory of a plan that is played on a job without a script, and the job of a path.
use Rattle.std.proofs.Common.{◌≡◌, ℕ, List, [], ◌∷◌, ◌++◌, max, ap, sym, ◌∙◌, arith}
use Rattle.snes_defs.specs.declared.cart.Job.{Job}
use Rattle.snes_defs.specs.Script.{Script}
use Rattle.snes_defs.specs.declared.ports.Side.{Side}
use Rattle.input_files.specs.declared.plan.PlanStep.{PlanStep}
use Rattle.input_files.specs.declared.plan.PlanStep.TheVariants.{Go, Keep, Back, Reset}
use Rattle.run_drive.specs.Played.{IsPlayable, PlayedWhole, PlayedFirst}
use Rattle.plan_drive.specs.Joins.{Joins, PlanEmits}
use Rattle.plan_drive.specs.Paths.{Path, Paths, empty_path, no_paths, after_step, path_script, path_job, room_of}
use Rattle.snapshot.specs.Path.{PathEmits}
use Rattle.snapshot.proofs.Rooms.{path_is_output}
use Rattle.job_player.specs.Start.{Emits}

no_less : (n : ℕ) → max 0 n ≡ n
no_less n = omega arith

pub room_for : (job : Job) (steps : List PlanStep) → job.script ≡ path_script job.region 0 empty_path → max job.script.room (room_of steps) ≡ room_of steps
room_for job steps script = ap (λ (s : Script). max s.room (room_of steps)) script ∙ no_less (room_of steps)

-- the script of a job without a script, by its own room
pub own_script : (job : Job) → job.script ≡ path_script job.region 0 empty_path → job.script ≡ path_script job.region job.script.room empty_path
own_script job script = script ∙ ap (λ (s : Script). path_script job.region s.room empty_path) (sym script)

-- what a path emits is the output of its job, at whose room for resets no machine looks
pub path_is_job : (job : Job) (n : ℕ) (path : Path) (video audio : List ℕ) → PathEmits job n path video audio → Emits (path_job job n path) video audio
path_is_job job n path video audio h = path_is_output job n path video audio h

-- what a plan emits by the runs of paths, it emits by the outputs of their jobs
joins : (job : Job) (n : ℕ) (steps : List PlanStep) (paths : Paths) (video audio : List ℕ)
    → Joins (PathEmits job n) steps paths video audio
    → Joins (λ path. Emits (path_job job n path)) steps paths video audio
joins job n [] paths video audio h = h
joins job n (Go count pad1 pad2 ∷ rest) paths video audio (go_video, go_audio, more_video, more_audio, go, more, same_video, same_audio) =
    let next = after_step paths (Go count pad1 pad2) in (
      go_video,
      go_audio,
      more_video,
      more_audio,
      record {
        first_video = go.first_video;
        first_audio = go.first_audio;
        first = path_is_job job n paths.path go.first_video go.first_audio go.first;
        whole = path_is_job job n next.path (go.first_video ++ go_video) (go.first_audio ++ go_audio) go.whole;
      },
      joins job n rest next more_video more_audio more,
      same_video,
      same_audio,
    )
joins job n (Keep slot ∷ rest) paths video audio h = joins job n rest (after_step paths (Keep slot)) video audio h
joins job n (Back slot ∷ rest) paths video audio h = joins job n rest (after_step paths (Back slot)) video audio h
joins job n (Reset ∷ rest) paths video audio h = joins job n rest (after_step paths Reset) video audio h

module _ (job : Job) (steps : List PlanStep) where
  abbrev pub ByPaths : List ℕ → List ℕ → Type 0
  ByPaths = Joins (PathEmits job (room_of steps)) steps no_paths

  pub playable : IsPlayable ByPaths → IsPlayable (PlanEmits Emits job steps)
  playable h = record { video = h.video; audio = h.audio; emitted = joins job (room_of steps) steps no_paths h.video h.audio h.emitted }

  pub played_plan : (holds : Side → List ℕ → Type 0) → PlayedWhole ByPaths holds → PlayedWhole (PlanEmits Emits job steps) holds
  played_plan holds h = record {
    video = h.video;
    audio = h.audio;
    emitted = joins job (room_of steps) steps no_paths h.video h.audio h.emitted;
    video_taken = h.video_taken;
    audio_taken = h.audio_taken;
  }

  pub played_some : (holds : Side → List ℕ → Type 0) → PlayedFirst ByPaths holds → PlayedFirst (PlanEmits Emits job steps) holds
  played_some holds h = record {
    video = h.video;
    audio = h.audio;
    emitted = joins job (room_of steps) steps no_paths h.video h.audio h.emitted;
    video_count = h.video_count;
    video_taken = h.video_taken;
    audio_count = h.audio_count;
    audio_taken = h.audio_taken;
  }
