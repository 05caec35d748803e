-- A file without a difference from a run has the sums of that run, and no other file has.
use Rattle.std.proofs.Common.{◌≡◌, ℕ, List, [], Option, Some, None, refl, ap, ◌∙◌, arith}
use Rattle.std.proofs.lemmas.List.FromFn.{length-map-range_with_len, get_or-map-range_with_len, fill_by_all}
use Rattle.snes_defs.specs.declared.region.Region.{Region}
use Rattle.frame_sums.specs.declared.compare.Difference.{Difference}
use Rattle.frame_sums.specs.declared.compare.Difference.TheVariants as differs
use Rattle.frame_sums.specs.declared.file.SumPair.{SumPair}
use Rattle.frame_sums.specs.SumsFile.{SumsIn}
use Rattle.frame_sums.specs.Compare.{run_pair, run_all, IsFound}
use Rattle.frame_sums_laws.specs.RunSums.{run_pairs, run_sums}

-- where no difference is found, none can be found
module _ (file : SumsIn) (frames : ℕ) (pair : ℕ → SumPair) (all : SumPair) where
  pub no_other : (difference : Difference) → IsFound file frames pair all None → IsFound file frames pair all (Some difference) → ⊥
  no_other (differs.Picture frame) none first = first.1 (ap (λ (p : SumPair). p.picture) (none.0.frames_are frame first.0.in_run))
  no_other (differs.Sound frame) none first = first.2 (ap (λ (p : SumPair). p.sound) (none.0.frames_are frame first.0.in_run))
  no_other differs.Frames none first = first.1 none.0.count
  no_other differs.AllPictures none first = first.1 (ap (λ (p : SumPair). p.picture) none.1)
  no_other differs.AllSound none first = first.2 (ap (λ (p : SumPair). p.sound) none.1)

module _ (region : Region) (frames : ℕ) (video audio : List ℕ) where
  abbrev Pair : ℕ → SumPair
  Pair = run_pair region video audio

  -- the sums of a run have no difference from it
  pub none_found : IsFound (run_sums region frames video audio) frames Pair (run_all video audio) None
  none_found = (
    record {
      count = length-map-range_with_len Pair 0 frames;
      frames_are = λ frame lt. get_or-map-range_with_len Pair 0 frames frame frame (record { picture = []; sound = [] }) lt (omega arith);
    },
    refl,
  )

  -- and nothing else can be found
  pub only_none : (found : Option Difference) → IsFound (run_sums region frames video audio) frames Pair (run_all video audio) found → found ≡ None
  only_none None is = refl
  only_none (Some difference) is = absurd (no_other (run_sums region frames video audio) frames Pair (run_all video audio) difference none_found is)

  abbrev sums_by : List SumPair → SumPair → SumsIn
  sums_by pairs all = record { frames = pairs; all = all }

  -- a file without a difference has these sums
  pub has_sums : (file : SumsIn) → IsFound file frames Pair (run_all video audio) None → file ≡ run_sums region frames video audio
  has_sums file none =
      let pairs : file.frames ≡ run_pairs region video audio frames =
      fill_by_all Pair file.frames frames (record { picture = []; sound = [] }) none.0.count none.0.frames_are in
      ap (λ l. sums_by l file.all) pairs ∙ ap (λ a. sums_by (run_pairs region video audio frames) a) none.1
