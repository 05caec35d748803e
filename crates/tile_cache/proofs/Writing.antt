-- What a write of a register leaves of VRAM, and that the cache stays in step.
use Rattle.std.proofs.Common.{◌≡◌, ◌≢◌, ℕ, ◌==◌, ◌||◌, List, slice_index, if◌then◌else◌, true, false, Bool, None, Some, inl, inr, refl, sym, ap, subst, arith, ◌∙◌}
use Rattle.std.proofs.lemmas.Bool.{cases_eq}
use Rattle.std.proofs.lemmas.Bool.Decides.{nat_tests}
use Rattle.std.proofs.lemmas.List.{get_or-set_other}
use Rattle.ppu_regs.specs.Picture.{Picture}
use Rattle.ppu_regs.specs.Ports.{vram_place, vram_low_written, vram_high_written}
use Rattle.ppu_regs.specs.Writes.{after_write, word_written, oam_written, vram_low_set, vram_high_set, vram_low_put, vram_high_put, colour_put}
use Rattle.tile_cache.specs.Bitplanes.{pixel_of, packed, IsInStepAt, IsInStep}

-- VRAM after a write, by the two data registers
vram_after :
    (p : Picture) (reg v : ℕ) →
    (after_write p reg v).vram ≡
    (if reg == 0x18 then vram_low_written p.vram p.registers.vram v
    else if reg == 0x19 then vram_high_written p.vram p.registers.vram v
    else p.vram)
unfolding after_write oam_written vram_low_set vram_high_set vram_low_put vram_high_put colour_put
vram_after p reg v = grind (arith, nat_tests)

low_elsewhere :
    (p : Picture) (v w : ℕ) → w ≢ vram_place p.registers.vram →
    slice_index (vram_low_written p.vram p.registers.vram v) w ≡ slice_index p.vram w
unfolding vram_low_written
low_elsewhere p v w h = get_or-set_other p.vram (vram_place p.registers.vram) w _ 0 h

high_elsewhere :
    (p : Picture) (v w : ℕ) → w ≢ vram_place p.registers.vram →
    slice_index (vram_high_written p.vram p.registers.vram v) w ≡ slice_index p.vram w
unfolding vram_high_written
high_elsewhere p v w h = get_or-set_other p.vram (vram_place p.registers.vram) w _ 0 h

-- a write that names no word leaves VRAM
pub vram_kept : (p : Picture) (reg v : ℕ) → word_written p reg ≡ None → (after_write p reg v).vram ≡ p.vram
unfolding word_written
vram_kept p reg v none = vram_after p reg v ∙ by_tests (reg == 0x18) (reg == 0x19) none
  where
    by_tests : (a b : Bool) → (if a || b then Some (vram_place p.registers.vram) else None) ≡ None →
        (if a then vram_low_written p.vram p.registers.vram v else if b then vram_high_written p.vram p.registers.vram v else p.vram) ≡ p.vram
    by_tests true b e = cc
    by_tests false true e = cc
    by_tests false false e = refl

-- one that names a word leaves all others
pub vram_elsewhere :
    (p : Picture) (reg v word w : ℕ) → word_written p reg ≡ Some word → w ≢ word →
    slice_index (after_write p reg v).vram w ≡ slice_index p.vram w
unfolding word_written
vram_elsewhere p reg v word w some other =
    ap (λ xs. slice_index xs w) (vram_after p reg v) ∙ by_tests (reg == 0x18) (reg == 0x19) some
  where
    by_tests : (a b : Bool) → (if a || b then Some (vram_place p.registers.vram) else None) ≡ Some word →
        slice_index (if a then vram_low_written p.vram p.registers.vram v else if b then vram_high_written p.vram p.registers.vram v else p.vram) w ≡ slice_index p.vram w
    by_tests true b e =
        let same : vram_place p.registers.vram ≡ word = cc in
        low_elsewhere p v w (λ h. other (h ∙ same))
    by_tests false true e =
        let same : vram_place p.registers.vram ≡ word = cc in
        high_elsewhere p v w (λ h. other (h ∙ same))
    by_tests false false e = cc

pub stays_in_step :
    (p q : Picture) (cache : List ℕ) (reg v : ℕ) → word_written p reg ≡ None → q ≡ after_write p reg v → IsInStep cache p.vram → IsInStep cache q.vram
stays_in_step p q cache reg v none after step =
    let same : q.vram ≡ p.vram = ap (λ r. r.vram) after ∙ vram_kept p reg v none in
    subst (IsInStep cache) (sym same) step

pub comes_in_step :
    (p q : Picture) (old new : List ℕ) (reg v word : ℕ) → word_written p reg ≡ Some word → q ≡ after_write p reg v → IsInStep old p.vram →
    IsInStepAt new q.vram word → ((w : ℕ) → w ≢ word → slice_index new w ≡ slice_index old w) → IsInStep new q.vram
comes_in_step p q old new reg v word some after step here others = record {
  at = λ w within. elim (cases_eq w word) [
    | inl same ↦ subst (λ n. slice_index new n ≡ packed (pixel_of (slice_index q.vram n))) (sym same) here
    | inr other ↦ (
        let kept : slice_index q.vram w ≡ slice_index p.vram w =
        ap (λ r. slice_index r.vram w) after ∙ vram_elsewhere p reg v word w some other
        in
        others w other ∙ step.at w within ∙ ap (λ n. packed (pixel_of n)) (sym kept)
        )
  ];
}
