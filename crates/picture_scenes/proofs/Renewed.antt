-- A cache that is brought in step word by word.
use Rattle.std.proofs.Common.{◌≡◌, ◌≢◌, ℕ, ◌+◌, ◌<◌, ◌≤◌, List, slice_index, inl, inr, sym, subst, arith, ◌∙◌}
use Rattle.std.proofs.lemmas.Bool.{cases_eq}
use Rattle.tile_cache.specs.Bitplanes.{pixel_of, packed, IsInStepAt, IsInStep}

-- the words before one are in step
pub record IsRenewed (cache vram : List ℕ) (word : ℕ) : Type 0 where
  pub at : (w : ℕ) → w < word → IsInStepAt cache vram w

-- and that one too, once its pixels are put
pub renewed_next : (new old vram : List ℕ) (word : ℕ) → IsInStepAt new vram word →
    ((w : ℕ) → w ≢ word → slice_index new w ≡ slice_index old w) → IsRenewed old vram word → IsRenewed new vram (word + 1)
renewed_next new old vram word here others before = record {
  at = λ w below. elim (cases_eq w word) [
    | inl same ↦ subst (λ n. slice_index new n ≡ packed (pixel_of (slice_index vram n))) (sym same) here
    | inr other ↦ others w other ∙ before.at w (omega arith)
  ];
}

-- all words
pub renewed_whole : (cache vram : List ℕ) (n : ℕ) → 32768 ≤ n → IsRenewed cache vram n → IsInStep cache vram
renewed_whole cache vram n enough done = record { at = λ word within. done.at word (omega arith) }
