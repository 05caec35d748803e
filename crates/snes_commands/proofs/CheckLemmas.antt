-- What is found of a file of sums and a run is what `check` makes.
use Rattle.std.proofs.Common.{◌≡◌, ◌≤◌, ℕ, List, [], Option, IfSome, refl}
use Rattle.snes_defs.specs.declared.cart.Job.{Job}
use Rattle.shelf.specs.declared.shelves.Input.{Input}
use Rattle.shelf.specs.declared.shelves.Input.TheVariants.{Sums}
use Rattle.shelf.specs.Shown.{Shown}
use Rattle.run_drive.specs.Played.{IsPlayable}
use Rattle.run_io.specs.declared.options.Count.TheVariants.{Frames}
use Rattle.run_io.specs.Form.{Order, Fits}
use Rattle.frame_sums.specs.declared.compare.Difference.{Difference}
use Rattle.frame_sums.specs.declared.digests.Digests.{Digests}
use Rattle.frame_sums.specs.Compare.{run_pair, run_all, IsFound}
use Rattle.frame_sums.specs.Digests.{AreSumsOf, digest_pair, digest_all}
use Rattle.frame_sums.specs.SumsFile.{SumsIn}
use Rattle.frame_sums.proofs.CompareLemmas.{search}
use Rattle.frame_sums.proofs.DigestLemmas.{digests_found}
use Rattle.snes_commands.specs.Check.{check_form, check, found_line}
use Rattle.snes_commands.specs.Command.{CanMake, HoldsWhole}
use Rattle.snes_commands.specs.Job.{ShowsJob}
use Rattle.snes_commands.specs.Kinds.{IsSumsIn}

-- the frames are few
pub few : (order : Order) → Fits check_form order → order.count ≤ 36000
few order h = h.count Frames refl

module _ (emits : Job → List ℕ → List ℕ → Type 0) (order : Order) (told : Input → Option (List ℕ)) (job : Job) (shows : ShowsJob told order.count job)
    (file : SumsIn) (file_is : IfSome (told Sums) (λ bytes. IsSumsIn bytes file)) where
  pub check_can : IsPlayable (emits job) → CanMake (check emits) order told
  check_can h =
      let found = search file job.frames (run_pair job.region h.video h.audio) (run_all h.video h.audio) in
      record {
        contents = λ o. [];
        line = found_line job found.0;
        makes = record {
          job = job;
          shows = shows;
          video = h.video;
          audio = h.audio;
          emitted = h.emitted;
          file = file;
          file_is = file_is;
          found = found.0;
          compared = found.1;
          says = refl;
        };
      }

  pub check_whole : (after : Shown) (video audio : List ℕ) → emits job video audio → (found : Option Difference)
      → IsFound file job.frames (run_pair job.region video audio) (run_all video audio) found → (line : List ℕ) → line ≡ found_line job found
      → HoldsWhole (check emits) order told after.written line
  check_whole after video audio emitted found compared line says = record {
    contents = λ o. [];
    makes = record {
      job = job;
      shows = shows;
      video = video;
      audio = audio;
      emitted = emitted;
      file = file;
      file_is = file_is;
      found = found;
      compared = compared;
      says = says;
    };
    holds = tt;
  }

-- what is found by the digests is found by the sums of what the run emitted
pub emitted_found : (emits : List ℕ → List ℕ → Type 0) (job : Job) (v a : Digests) → (h : AreSumsOf emits job.region job.frames v a) → (file : SumsIn) (found : Option Difference)
    → IsFound file v.of.frames (digest_pair v a) (digest_all v a) found → IsFound file job.frames (run_pair job.region h.video h.audio) (run_all h.video h.audio) found
emitted_found emits job v a h file found is = digests_found job.region job.frames v a h.video h.audio h.video_of h.audio_of h.pictures h.sounds file found is
