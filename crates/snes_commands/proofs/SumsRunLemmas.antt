-- What is put to the output for sums is what `sums` makes.
use Rattle.std.proofs.Common.{◌≡◌, ◌≤◌, ℕ, List, [], ◌∷◌, Option, refl, sym, ap, ◌∙◌}
use Rattle.snes_defs.specs.declared.cart.Job.{Job}
use Rattle.shelf.specs.declared.shelves.Input.{Input}
use Rattle.shelf.specs.declared.shelves.Out.TheVariants.{Sums}
use Rattle.shelf.specs.Told.{Holds, Appends, AppendsSome}
use Rattle.shelf.specs.Shown.{Shown, OnlyPuts}
use Rattle.run_drive.specs.Played.{IsPlayable}
use Rattle.run_io.specs.declared.options.Count.TheVariants.{Frames}
use Rattle.run_io.specs.Form.{Order, Fits}
use Rattle.run_io.specs.Lists.{AllOf}
use Rattle.frame_sums.specs.declared.digests.Digests.{Digests}
use Rattle.frame_sums.specs.declared.pieces.Pieces.{Pieces}
use Rattle.frame_sums.specs.Digests.{row_in, AreSumsOf}
use Rattle.frame_sums.specs.Text.{text_of, sums_text}
use Rattle.frame_sums.proofs.DigestLemmas.{digests_text}
use Rattle.snes_commands.specs.Command.{CanMake, HoldsWhole, HoldsFirst}
use Rattle.snes_commands.specs.Ends.{OnlyTouches}
use Rattle.snes_commands.specs.Job.{ShowsJob, run_line}
use Rattle.snes_commands.specs.SumsRun.{sums_form, sums}

-- the frames are few
pub few : (order : Order) → Fits sums_form order → order.count ≤ 36000
few order h = h.count Frames refl

module _ (emits : Job → List ℕ → List ℕ → Type 0) (order : Order) (told : Input → Option (List ℕ)) (job : Job) (shows : ShowsJob told order.count job) where
  pub sums_can : IsPlayable (emits job) → CanMake (sums emits) order told
  sums_can h = record {
    contents = λ o. sums_text job.region job.frames h.video h.audio;
    line = run_line job;
    makes = record { job = job; shows = shows; video = h.video; audio = h.audio; emitted = h.emitted; sums = refl; says = refl };
  }

  module _ (before after : Shown) (empty : Holds (before.written Sums) []) (video audio : List ℕ) (emitted : emits job video audio) where
    pub sums_whole : (line : List ℕ) → line ≡ run_line job → Appends (before.written Sums) (after.written Sums) (sums_text job.region job.frames video audio)
        → HoldsWhole (sums emits) order told after.written line
    sums_whole line says puts = record {
      contents = λ o. sums_text job.region job.frames video audio;
      makes = record { job = job; shows = shows; video = video; audio = audio; emitted = emitted; sums = refl; says = says };
      holds = (puts [] empty, tt);
    }

    pub sums_first : AppendsSome (before.written Sums) (after.written Sums) (sums_text job.region job.frames video audio)
        → AllOf (HoldsFirst (sums emits) order told after.written) (Sums ∷ [])
    sums_first puts =
        let some = puts [] empty in (
          record {
            contents = λ o. sums_text job.region job.frames video audio;
            line = run_line job;
            makes = record { job = job; shows = shows; video = video; audio = audio; emitted = emitted; sums = refl; says = refl };
            count = some.0;
            holds = some.1;
          },
          tt,
        )

-- what is put is the text of the sums of what the run emitted
pub emitted_text : (emits : List ℕ → List ℕ → Type 0) (job : Job) (v a : Digests) → (h : AreSumsOf emits job.region job.frames v a)
    → text_of (row_in v.rows.items) (row_in a.rows.items) v.all a.all v.of.frames ≡ sums_text job.region job.frames h.video h.audio
emitted_text emits job v a h = digests_text job.region job.frames v a h.video h.audio h.video_of h.audio_of h.pictures h.sounds

-- both sides have as many frames
pub as_many : (emits : List ℕ → List ℕ → Type 0) (job : Job) (v a : Digests) → AreSumsOf emits job.region job.frames v a → v.of.frames ≡ a.of.frames
as_many emits job v a h = ap (λ (o : Pieces). o.frames) h.video_of ∙ sym (ap (λ (o : Pieces). o.frames) h.audio_of)

pub sums_only : (a b : Shown) → OnlyPuts a b Sums → OnlyTouches (Sums ∷ []) a b
sums_only a b h = record {
  held = h.held;
  load_faults = h.load_faults;
  write_faults = h.write_faults;
  others = λ other none. h.others other (λ e. none.0 (sym e));
}
