-- When the cache is in step with VRAM.
use Rattle.std.proofs.Common.{◌≡◌, ℕ, ◌+◌, ◌*◌, ◌%◌, ◌<◌, ◌≤◌, List, length, All, slice_index, replicate, inl, inr, refl, sym, ap, arith, ◌∙◌}
use Rattle.std.proofs.lemmas.Bool.{cases_lt}
use Rattle.std.proofs.lemmas.List.{get_or_past, get_or-replicate, length-replicate}
use Rattle.ppu_regs.specs.Picture.{zeros, vram_words}
use Rattle.tile_cache.specs.Bitplanes.{pixel_of, value_of, packed, IsInStep}

-- a list of zeros has 0 everywhere
zero_at : (xs : List ℕ) (i : ℕ) → All (λ b. b ≡ 0) xs → slice_index xs i ≡ 0
zero_at xs i all = elim (cases_lt i (length xs)) [ inl h ↦ all i 0 h | inr h ↦ get_or_past xs i 0 h ]

zero_of_zeros : (n i : ℕ) → slice_index (zeros n) i ≡ 0
unfolding zeros
zero_of_zeros n i =
    elim (cases_lt i n) [ inl h ↦ get_or-replicate n i 0 0 h | inr h ↦ get_or_past (replicate n 0) i 0 (rw length-replicate h) ]

pixels_of_zero : packed (pixel_of 0) ≡ 0
unfolding packed pixel_of
pixels_of_zero = refl

-- a cache of zeros is in step with the VRAM of a new unit
pub zeros_in_step : (cache : List ℕ) → All (λ b. b ≡ 0) cache → IsInStep cache (zeros vram_words)
zeros_in_step cache all = record {
  at = λ word within. zero_at cache word all ∙ sym (ap (λ w. packed (pixel_of w)) (zero_of_zeros vram_words word) ∙ pixels_of_zero);
}

pub small_zeros : (cache : List ℕ) → All (λ b. b ≡ 0) cache → (k : ℕ) → slice_index cache k ≤ 0x303030303030303
small_zeros cache all k = let e = zero_at cache k all in omega (arith, e)

-- the pixels of a line, from those of its words
two_planes : (vram : List ℕ) (word : ℕ) → packed (pixel_of (slice_index vram word)) ≡ packed (value_of vram word 2)
unfolding packed value_of
two_planes vram word = omega arith

four_planes :
    (vram : List ℕ) (word : ℕ) →
    packed (pixel_of (slice_index vram word)) + 4 * packed (pixel_of (slice_index vram ((word + 8) % 32768))) ≡ packed (value_of vram word 4)
unfolding packed value_of
four_planes vram word = omega arith

eight_planes :
    (vram : List ℕ) (word : ℕ) →
    packed (pixel_of (slice_index vram word)) + 4 * packed (pixel_of (slice_index vram ((word + 8) % 32768)))
    + 16 * packed (pixel_of (slice_index vram ((word + 16) % 32768))) + 64 * packed (pixel_of (slice_index vram ((word + 24) % 32768))) ≡
    packed (value_of vram word 8)
unfolding packed value_of
eight_planes vram word = omega arith

pub line_of_two :
    (cache vram : List ℕ) (word : ℕ) → word < 32768 → IsInStep cache vram → slice_index cache word ≡ packed (value_of vram word 2)
line_of_two cache vram word within step = step.at word within ∙ two_planes vram word

pub line_of_four :
    (cache vram : List ℕ) (word : ℕ) → word < 32768 → IsInStep cache vram →
    slice_index cache word + 4 * slice_index cache ((word + 8) % 32768) ≡ packed (value_of vram word 4)
line_of_four cache vram word within step =
    rw (step.at word within, step.at ((word + 8) % 32768) (omega arith)) (four_planes vram word)

pub line_of_eight :
    (cache vram : List ℕ) (word : ℕ) → word < 32768 → IsInStep cache vram →
    slice_index cache word + 4 * slice_index cache ((word + 8) % 32768)
    + 16 * slice_index cache ((word + 16) % 32768) + 64 * slice_index cache ((word + 24) % 32768) ≡
    packed (value_of vram word 8)
line_of_eight cache vram word within step =
    rw (
      step.at word within,
      step.at ((word + 8) % 32768) (omega arith),
      step.at ((word + 16) % 32768) (omega arith),
      step.at ((word + 24) % 32768) (omega arith),
    )
    (eight_planes vram word)

pub ruleset lines = (line_of_two, line_of_four, line_of_eight)
