-- What a plan leaves in video and sound is what its command makes.
use Rattle.std.proofs.Common.{◌≡◌, ℕ, List, ◌∷◌, [], Option, refl}
use Rattle.snes_defs.specs.declared.cart.Job.{Job}
use Rattle.shelf.specs.declared.shelves.Input.{Input}
use Rattle.shelf.specs.declared.shelves.Out.TheVariants.{Video, Sound}
use Rattle.shelf.specs.Told.{Holds}
use Rattle.shelf.specs.Shown.{Shown}
use Rattle.input_files.specs.Plan.{PlanValue}
use Rattle.plan_drive.specs.Joins.{PlanEmits}
use Rattle.run_drive.specs.Outputs.{output_of}
use Rattle.run_drive.specs.Played.{IsPlayable, PlayedWhole, PlayedFirst}
use Rattle.run_io.specs.Form.{Order}
use Rattle.run_io.specs.Lists.{AllOf}
use Rattle.snes_commands.specs.Command.{CanMake, HoldsWhole, HoldsFirst}
use Rattle.snes_commands.specs.Rewind.{ShowsPlan, plan_line, rewind}
use Rattle.snes_commands.proofs.RunLemmas.{both}

module _ (emits : Job → List ℕ → List ℕ → Type 0) (order : Order) (told : Input → Option (List ℕ)) (job : Job) (plan : PlanValue) (shows : ShowsPlan told job plan) where
  pub rewind_can : IsPlayable (PlanEmits emits job plan.steps) → CanMake (rewind emits) order told
  unfolding both
  rewind_can h = record { contents = both h.video h.audio; line = plan_line plan; makes = record { job = job; plan = plan; shows = shows; emitted = h.emitted; says = refl } }

  module _ (after : Shown) where
    pub rewind_whole : (line : List ℕ) → line ≡ plan_line plan → PlayedWhole (PlanEmits emits job plan.steps) (λ side bytes. Holds (after.written (output_of side)) bytes)
        → HoldsWhole (rewind emits) order told after.written line
    unfolding both
    rewind_whole line says h = record {
      contents = both h.video h.audio;
      makes = record { job = job; plan = plan; shows = shows; emitted = h.emitted; says = says };
      holds = (h.video_taken, (h.audio_taken, tt));
    }

    pub rewind_first : PlayedFirst (PlanEmits emits job plan.steps) (λ side bytes. Holds (after.written (output_of side)) bytes)
        → AllOf (HoldsFirst (rewind emits) order told after.written) (Video ∷ (Sound ∷ []))
    unfolding both
    rewind_first h =
        let video : HoldsFirst (rewind emits) order told after.written Video
        = record { contents = both h.video h.audio; line = plan_line plan; makes = record { job = job; plan = plan; shows = shows; emitted = h.emitted; says = refl }; count = h.video_count; holds = h.video_taken } in
        let sound : HoldsFirst (rewind emits) order told after.written Sound
        = record { contents = both h.video h.audio; line = plan_line plan; makes = record { job = job; plan = plan; shows = shows; emitted = h.emitted; says = refl }; count = h.audio_count; holds = h.audio_taken } in
        (video, (sound, tt))
