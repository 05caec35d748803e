-- What a run leaves in video and sound is what its command makes.
use Rattle.std.proofs.Common.{◌≡◌, ◌≤◌, ℕ, List, [], ◌∷◌, Option, refl, sym, inl, inr}
use Rattle.snes_defs.specs.declared.cart.Job.{Job}
use Rattle.snes_defs.specs.declared.ports.Side.{Side}
use Rattle.snes_defs.specs.declared.ports.Side.TheVariants as side
use Rattle.shelf.specs.declared.shelves.Input.{Input}
use Rattle.shelf.specs.declared.shelves.Out.{Out}
use Rattle.shelf.specs.declared.shelves.Out.TheVariants.{Video, Sound, Image, Sums, State, Spc, Say}
use Rattle.shelf.specs.Told.{Holds, HasRisen}
use Rattle.shelf.specs.Shown.{Shown}
use Rattle.run_drive.specs.Outputs.{output_of, OnlyFills}
use Rattle.run_drive.specs.Played.{IsPlayable, PlayedWhole, PlayedFirst}
use Rattle.run_io.specs.declared.options.Count.TheVariants.{Frames}
use Rattle.run_io.specs.Form.{Order, Fits}
use Rattle.run_io.specs.Lists.{AllOf, IsOneOf}
use Rattle.snes_commands.specs.Command.{CanMake, HoldsWhole, HoldsFirst}
use Rattle.snes_commands.specs.Ends.{OnlyTouches}
use Rattle.snes_commands.specs.Job.{ShowsJob, run_line}
use Rattle.snes_commands.specs.Run.{run_form, run}

-- the frames are few
pub few : (order : Order) → Fits run_form order → order.count ≤ 36000
few order h = h.count Frames refl

-- these bytes in video and sound
unfoldable pub both : List ℕ → List ℕ → Out → List ℕ
both video audio Video = video
both video audio Sound = audio
both video audio Image = []
both video audio Sums = []
both video audio State = []
both video audio Spc = []
both video audio Say = []

module _ (emits : Job → List ℕ → List ℕ → Type 0) (order : Order) (told : Input → Option (List ℕ)) (job : Job) (shows : ShowsJob told order.count job) where
  pub run_can : IsPlayable (emits job) → CanMake (run emits) order told
  unfolding both
  run_can h = record { contents = both h.video h.audio; line = run_line job; makes = record { job = job; shows = shows; emitted = h.emitted; says = refl } }

  module _ (after : Shown) where
    pub run_whole : (line : List ℕ) → line ≡ run_line job → PlayedWhole (emits job) (λ side bytes. Holds (after.written (output_of side)) bytes) → HoldsWhole (run emits) order told after.written line
    unfolding both
    run_whole line says h = record {
      contents = both h.video h.audio;
      makes = record { job = job; shows = shows; emitted = h.emitted; says = says };
      holds = (h.video_taken, (h.audio_taken, tt));
    }

    pub run_first : PlayedFirst (emits job) (λ side bytes. Holds (after.written (output_of side)) bytes) → AllOf (HoldsFirst (run emits) order told after.written) (Video ∷ (Sound ∷ []))
    unfolding both
    run_first h =
        let video : HoldsFirst (run emits) order told after.written Video
        = record { contents = both h.video h.audio; line = run_line job; makes = record { job = job; shows = shows; emitted = h.emitted; says = refl }; count = h.video_count; holds = h.video_taken } in
        let sound : HoldsFirst (run emits) order told after.written Sound
        = record { contents = both h.video h.audio; line = run_line job; makes = record { job = job; shows = shows; emitted = h.emitted; says = refl }; count = h.audio_count; holds = h.audio_taken } in
        (video, (sound, tt))

pub run_failed : (one : Side) (before after : Shown) → HasRisen (before.write_faults (output_of one)) (after.write_faults (output_of one))
    → IsOneOf (Video ∷ (Sound ∷ [])) (output_of one) × HasRisen (before.write_faults (output_of one)) (after.write_faults (output_of one))
run_failed side.Console before after h = (inl refl, h)
run_failed side.Sound before after h = (inr (tt, inl refl), h)

pub run_only : (a b : Shown) → OnlyFills a b → OnlyTouches (Video ∷ (Sound ∷ [])) a b
run_only a b h = record {
  held = h.only.held;
  load_faults = h.only.load_faults;
  write_faults = h.only.write_faults;
  others = λ other none. h.only.others other (λ e. none.0 (sym e)) (λ e. none.1.0 (sym e));
}
