-- The line of a demo has the sums of all that its run emits.
use Rattle.std.proofs.Common.{◌≡◌, ◌≤◌, ℕ, List, [], Option, refl, ap, ◌∙◌}
use Rattle.snes_defs.specs.declared.cart.Job.{Job}
use Rattle.snes_defs.specs.declared.region.Region.TheVariants.{Ntsc}
use Rattle.clock_ratio.specs.Stamp.{end_stamp_of, samples_before_of}
use Rattle.shelf.specs.declared.shelves.Input.{Input}
use Rattle.shelf.specs.Shown.{Shown}
use Rattle.run_drive.specs.Played.{IsPlayable, PlayedWhole}
use Rattle.run_io.specs.declared.options.Count.TheVariants.{Frames}
use Rattle.run_io.specs.Form.{Order, Fits}
use Rattle.run_io.specs.Line.{line_of, demo_text}
use Rattle.snes_commands.specs.declared.sums.Sums.{Sums}
use Rattle.snes_commands.specs.Command.{CanMake, HoldsWhole}
use Rattle.snes_commands.specs.Demo.{demo_form, IsDemoJob, demo, sum_in}
use Rattle.snes_commands.specs.Sums.{HasTaken}

-- the frames are few
pub few : (order : Order) → Fits demo_form order → order.count ≤ 36000
few order h = h.count Frames refl

module _ (emits : Job → List ℕ → List ℕ → Type 0) (order : Order) (told : Input → Option (List ℕ)) (job : Job) (of_number : IsDemoJob order.number order.count job) where
  pub demo_can : IsPlayable (emits job) → CanMake (demo emits) order told
  demo_can h = record {
    contents = λ o. [];
    line = line_of (demo_text order.count (samples_before_of Ntsc (end_stamp_of Ntsc order.count)) (sum_in h.video) (sum_in h.audio));
    makes = record { job = job; of_number = of_number; video = h.video; audio = h.audio; emitted = h.emitted; says = refl };
  }

  pub demo_whole : (after : Shown) (samples : ℕ) (sums : Sums) (line : List ℕ) → PlayedWhole (emits job) (HasTaken sums)
      → samples ≡ samples_before_of Ntsc (end_stamp_of Ntsc order.count) → line ≡ line_of (demo_text order.count samples sums.video sums.audio) → HoldsWhole (demo emits) order told after.written line
  demo_whole after samples sums line played counted says = record {
    contents = λ o. [];
    makes = record {
      job = job;
      of_number = of_number;
      video = played.video;
      audio = played.audio;
      emitted = played.emitted;
      says = says
          ∙ ap (λ n. line_of (demo_text order.count n sums.video sums.audio)) counted
          ∙ ap (λ n. line_of (demo_text order.count (samples_before_of Ntsc (end_stamp_of Ntsc order.count)) n sums.audio)) played.video_taken
          ∙ ap (λ n. line_of (demo_text order.count (samples_before_of Ntsc (end_stamp_of Ntsc order.count)) (sum_in played.video) n)) played.audio_taken;
    };
    holds = tt;
  }
