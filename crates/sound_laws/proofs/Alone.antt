-- One voice by itself, and the eight of them.
use Rattle.std.proofs.Common.{◌≡◌, ◌≢◌, ◌∙◌, ℕ, ℤ, pos, zero, suc, true, false, ◌+◌, ◌-◌, ◌*◌, ◌^◌, ◌<◌, ◌≤◌, ◌+ℤ◌, List, [], ◌∷◌, slice_index, slice_set, refl, ap, sym, ⊎_elim, arith}
use Rattle.std.proofs.lemmas.Bool.{cases_eq}
use Rattle.std.proofs.Math.IntN.{*ℤ-zero}
use Rattle.std.proofs.lemmas.Int.{clamps, ints}
use Rattle.std.proofs.lemmas.List.{get_or-set_other}
use Rattle.sdsp_voice.specs.Keys.{after_keys}
use Rattle.sdsp_voice.specs.Noise.{after_noise}
use Rattle.sdsp_voice.specs.Registers.{bit, kept, setting, written}
use Rattle.sdsp_voice.specs.Sample.{added, by_volume, prepared, sums_of, turns}
use Rattle.sdsp_voice.specs.Signed.{clamped_16, signed_byte}
use Rattle.sdsp_voice.specs.declared.voices.Voices.{Voices}
use Rattle.audio_side.specs.SoundLaws.{by_test}
use Rattle.audio_side.specs.Stem.{silenced, silenced_below, stem_voices}
use Rattle.sound_laws.specs.Parts.{IsUnheld, eight, left_alone, left_below, left_part, right_alone, right_below, right_part}
use Rattle.sound_laws.proofs.Alike.{IsAlike, is_volume, left_more, left_volume, prepared_alike, right_more, right_volume, stem_alike, volume_written}

-- ---- sums that are held

-- a volume of 0 adds nothing
added_none : (z out : ℤ) → added z out (pos 0) ≡ clamped_16 z
unfolding added by_volume
added_none z out =
    let e : z +ℤ pos 0 ≡ z = omega (arith, ints) in
    rw *ℤ-zero (ap clamped_16 e)

held_again : (z : ℤ) → clamped_16 (clamped_16 z) ≡ clamped_16 z
unfolding clamped_16
held_again z = omega (arith, ints, clamps)

added_first : (out volume : ℤ) → added (pos 0) out volume ≡ clamped_16 (by_volume out volume)
unfolding added
added_first out volume =
    let z = by_volume out volume in
    let e : pos 0 +ℤ z ≡ z = omega (arith, ints) in
    ap clamped_16 e

module _ (f out volume : ℕ → ℤ) (v : ℕ) (near : v < 8) (none : f 0 ≡ pos 0) (more : (u : ℕ) → u < 8 → f (suc u) ≡ added (f u) (out u) (volume u))
    (silent : (u : ℕ) → u < 8 → u ≢ v → volume u ≡ pos 0) where
  stays_none : (n : ℕ) → n ≤ v → f n ≡ pos 0
  unfolding clamped_16
  stays_none zero le = none
  stays_none (suc u) le =
      more u (omega (arith, le, near)) ∙ ap (λ (z : ℤ). added (f u) (out u) z) (silent u (omega (arith, le, near)) (λ e. omega (arith, e, le)))
      ∙ added_none (f u) (out u) ∙ ap clamped_16 (stays_none u (omega (arith, le))) ∙ refl

  heard_once : (k : ℕ) → suc v + k ≤ 8 → f (suc v + k) ≡ clamped_16 (by_volume (out v) (volume v))
  heard_once zero le =
      let e : suc v + 0 ≡ suc v = omega arith in
      ap f e ∙ more v near ∙ ap (λ (z : ℤ). added z (out v) (volume v)) (stays_none v (omega arith)) ∙ added_first (out v) (volume v)
  heard_once (suc k) le =
      let u = suc v + k in
      let e : suc v + suc k ≡ suc u = omega arith in
      ap f e ∙ more u (omega (arith, le)) ∙ ap (λ (z : ℤ). added (f u) (out u) z) (silent u (omega (arith, le)) (λ i. omega (arith, i)))
      ∙ added_none (f u) (out u) ∙ ap clamped_16 (heard_once k (omega (arith, le))) ∙ held_again _

  -- the sum of voice v by itself
  pub alone_is : f 8 ≡ clamped_16 (by_volume (out v) (volume v))
  alone_is =
      let k = 7 - v in
      let e : 8 ≡ suc v + k = omega (arith, near) in
      ap f e ∙ heard_once k (omega (arith, near))

-- eight sums that nothing holds
module _ (f part : ℕ → ℤ) (none : f 0 ≡ pos 0) (more : (v : ℕ) → v < 8 → f (suc v) ≡ f v +ℤ part v) where
  one : f 1 ≡ part 0
  one =
      let e : pos 0 +ℤ part 0 ≡ part 0 = omega (arith, ints) in
      more 0 (omega arith) ∙ ap (λ (z : ℤ). z +ℤ part 0) none ∙ e

  next : (v : ℕ) (z : ℤ) → v < 8 → f v ≡ z → f (suc v) ≡ z +ℤ part v
  next v z near e = more v near ∙ ap (λ (x : ℤ). x +ℤ part v) e

  pub all_eight : f 8 ≡ eight part
  all_eight =
      next 7 _ (omega arith) (next 6 _ (omega arith) (next 5 _ (omega arith) (next 4 _ (omega arith) (next 3 _ (omega arith) (next 2 _ (omega arith) (next 1 _ (omega arith) one))))))

pub eight_same : (f g : ℕ → ℤ) → ((v : ℕ) → v < 8 → f v ≡ g v) → eight f ≡ eight g
eight_same f g same =
    rw (same 0 (omega arith), same 1 (omega arith), same 2 (omega arith), same 3 (omega arith), same 4 (omega arith), same 5 (omega arith), same 6 (omega arith), same 7 (omega arith)) refl

-- ---- the bits of a stem of one voice

below_eight : (P : ℕ → Type 0) → P 0 → P 1 → P 2 → P 3 → P 4 → P 5 → P 6 → P 7 → (n : ℕ) → n < 8 → P n
below_eight P a b c d e f g h zero lt = a
below_eight P a b c d e f g h (suc zero) lt = b
below_eight P a b c d e f g h (suc (suc zero)) lt = c
below_eight P a b c d e f g h (suc (suc (suc zero))) lt = d
below_eight P a b c d e f g h (suc (suc (suc (suc zero)))) lt = e
below_eight P a b c d e f g h (suc (suc (suc (suc (suc zero))))) lt = f
below_eight P a b c d e f g h (suc (suc (suc (suc (suc (suc zero)))))) lt = g
below_eight P a b c d e f g h (suc (suc (suc (suc (suc (suc (suc zero))))))) lt = h
below_eight P a b c d e f g h (suc (suc (suc (suc (suc (suc (suc (suc n)))))))) lt = absurd (omega (arith, lt))

-- its own bit is set, and no other
own_bit : (v : ℕ) → v < 8 → bit (2 ^ v) v ≡ true
own_bit = below_eight (λ v. bit (2 ^ v) v ≡ true) refl refl refl refl refl refl refl refl

abbrev IsOther : ℕ → ℕ → Type 0
IsOther v u = u ≢ v → bit (2 ^ v) u ≡ false

other_bit : (v : ℕ) → v < 8 → (u : ℕ) → u < 8 → IsOther v u
other_bit = below_eight (λ v. (u : ℕ) → u < 8 → IsOther v u)
    (below_eight (IsOther 0) (λ ne. absurd (ne refl)) (λ ne. refl) (λ ne. refl) (λ ne. refl) (λ ne. refl) (λ ne. refl) (λ ne. refl) (λ ne. refl))
    (below_eight (IsOther 1) (λ ne. refl) (λ ne. absurd (ne refl)) (λ ne. refl) (λ ne. refl) (λ ne. refl) (λ ne. refl) (λ ne. refl) (λ ne. refl))
    (below_eight (IsOther 2) (λ ne. refl) (λ ne. refl) (λ ne. absurd (ne refl)) (λ ne. refl) (λ ne. refl) (λ ne. refl) (λ ne. refl) (λ ne. refl))
    (below_eight (IsOther 3) (λ ne. refl) (λ ne. refl) (λ ne. refl) (λ ne. absurd (ne refl)) (λ ne. refl) (λ ne. refl) (λ ne. refl) (λ ne. refl))
    (below_eight (IsOther 4) (λ ne. refl) (λ ne. refl) (λ ne. refl) (λ ne. refl) (λ ne. absurd (ne refl)) (λ ne. refl) (λ ne. refl) (λ ne. refl))
    (below_eight (IsOther 5) (λ ne. refl) (λ ne. refl) (λ ne. refl) (λ ne. refl) (λ ne. refl) (λ ne. absurd (ne refl)) (λ ne. refl) (λ ne. refl))
    (below_eight (IsOther 6) (λ ne. refl) (λ ne. refl) (λ ne. refl) (λ ne. refl) (λ ne. refl) (λ ne. refl) (λ ne. absurd (ne refl)) (λ ne. refl))
    (below_eight (IsOther 7) (λ ne. refl) (λ ne. refl) (λ ne. refl) (λ ne. refl) (λ ne. refl) (λ ne. refl) (λ ne. refl) (λ ne. absurd (ne refl)))

-- ---- the volumes of a stem

by_equal : {P : Type 0} (u v : ℕ) → (u ≡ v → P) → (u ≢ v → P) → P
by_equal u v f g = ⊎_elim f g (cases_eq u v)

below_other : (u v : ℕ) → u < suc v → u ≢ v → u < v
below_other u v lt ne = omega (arith, lt, ne)

zero_there : (xs : List ℕ) (i : ℕ) → slice_index (slice_set xs i 0) i ≡ 0
zero_there [] i = refl
zero_there (x ∷ xs) zero = refl
zero_there (x ∷ xs) (suc i) = zero_there xs i

written_other : (d : Voices) (reg other : ℕ) → is_volume reg ≡ true → other ≢ reg → kept (written d reg 0) other ≡ kept d other
written_other d reg other is apart = rw (volume_written d reg 0 is) (get_or-set_other d.registers reg other 0 0 apart)

written_there : (d : Voices) (reg : ℕ) → is_volume reg ≡ true → kept (written d reg 0) reg ≡ 0
written_there d reg is = rw (volume_written d reg 0 is) (zero_there d.registers reg)

module _ (stem part left right reg : ℕ) (l : is_volume left ≡ true) (r : is_volume right ≡ true) where
  silenced_apart : (d : Voices) → reg ≢ left → reg ≢ right → kept (silenced stem part left right d) reg ≡ kept d reg
  unfolding silenced
  silenced_apart d a b =
      by_test (bit stem part) (λ e. rw e refl) (λ e. rw e (written_other (written d left 0) right reg r b ∙ written_other d left reg l a))

  silenced_with : (d : Voices) → bit stem part ≡ true → kept (silenced stem part left right d) reg ≡ kept d reg
  unfolding silenced
  silenced_with d has = rw has refl

  silenced_left : (d : Voices) → bit stem part ≡ false → reg ≡ left → reg ≢ right → kept (silenced stem part left right d) reg ≡ 0
  unfolding silenced
  silenced_left d lacks is b =
      rw lacks (written_other (written d left 0) right reg r b ∙ ap (kept (written d left 0)) is ∙ written_there d left l)

  silenced_right : (d : Voices) → bit stem part ≡ false → reg ≡ right → kept (silenced stem part left right d) reg ≡ 0
  unfolding silenced
  silenced_right d lacks is = rw lacks (ap (kept (written (written d left 0) right 0)) is ∙ written_there (written d left 0) right r)

module _ (stem : ℕ) (d : Voices) (u : ℕ) where
  left_with : bit stem u ≡ true → (n : ℕ) → kept (silenced_below stem n d) (16 * u) ≡ kept d (16 * u)
  unfolding silenced_below
  left_with has zero = refl
  left_with has (suc v) =
      by_equal u v
      (λ e. silenced_with stem v (16 * v) (16 * v + 1) (16 * u) (left_volume v) (right_volume v) (silenced_below stem v d) (ap (bit stem) (sym e) ∙ has) ∙ left_with has v)
      (λ ne. silenced_apart stem v (16 * v) (16 * v + 1) (16 * u) (left_volume v) (right_volume v) (silenced_below stem v d) (λ e. ne (omega (arith, e))) (λ e. omega (arith, e)) ∙ left_with has v)

  left_without : bit stem u ≡ false → (n : ℕ) → u < n → kept (silenced_below stem n d) (16 * u) ≡ 0
  unfolding silenced_below
  left_without lacks zero lt = absurd (omega (arith, lt))
  left_without lacks (suc v) lt =
      by_equal u v
      (λ e. silenced_left stem v (16 * v) (16 * v + 1) (16 * u) (left_volume v) (right_volume v) (silenced_below stem v d) (ap (bit stem) (sym e) ∙ lacks) (ap (λ (k : ℕ). 16 * k) e) (λ i. omega (arith, i)))
      (λ ne. silenced_apart stem v (16 * v) (16 * v + 1) (16 * u) (left_volume v) (right_volume v) (silenced_below stem v d) (λ e. ne (omega (arith, e))) (λ e. omega (arith, e))
      ∙ left_without lacks v (below_other u v lt ne))

  right_with : bit stem u ≡ true → (n : ℕ) → kept (silenced_below stem n d) (16 * u + 1) ≡ kept d (16 * u + 1)
  unfolding silenced_below
  right_with has zero = refl
  right_with has (suc v) =
      by_equal u v
      (λ e. silenced_with stem v (16 * v) (16 * v + 1) (16 * u + 1) (left_volume v) (right_volume v) (silenced_below stem v d) (ap (bit stem) (sym e) ∙ has) ∙ right_with has v)
      (λ ne. silenced_apart stem v (16 * v) (16 * v + 1) (16 * u + 1) (left_volume v) (right_volume v) (silenced_below stem v d) (λ e. omega (arith, e)) (λ e. ne (omega (arith, e))) ∙ right_with has v)

  right_without : bit stem u ≡ false → (n : ℕ) → u < n → kept (silenced_below stem n d) (16 * u + 1) ≡ 0
  unfolding silenced_below
  right_without lacks zero lt = absurd (omega (arith, lt))
  right_without lacks (suc v) lt =
      by_equal u v
      (λ e. silenced_right stem v (16 * v) (16 * v + 1) (16 * u + 1) (left_volume v) (right_volume v) (silenced_below stem v d) (ap (bit stem) (sym e) ∙ lacks) (ap (λ (k : ℕ). 16 * k + 1) e))
      (λ ne. silenced_apart stem v (16 * v) (16 * v + 1) (16 * u + 1) (left_volume v) (right_volume v) (silenced_below stem v d) (λ e. omega (arith, e)) (λ e. ne (omega (arith, e)))
      ∙ right_without lacks v (below_other u v lt ne))

  -- behind the echo's volumes too
  whole_left : kept (stem_voices stem d) (16 * u) ≡ kept (silenced_below stem 8 d) (16 * u)
  unfolding stem_voices
  whole_left = silenced_apart stem 8 0x2C 0x3C (16 * u) refl refl (silenced_below stem 8 d) (λ e. omega (arith, e)) (λ e. omega (arith, e))

  whole_right : kept (stem_voices stem d) (16 * u + 1) ≡ kept (silenced_below stem 8 d) (16 * u + 1)
  unfolding stem_voices
  whole_right = silenced_apart stem 8 0x2C 0x3C (16 * u + 1) refl refl (silenced_below stem 8 d) (λ e. omega (arith, e)) (λ e. omega (arith, e))

  module _ (ram : List ℕ) (s : ℕ) where
    loud_left : bit stem u ≡ true → (setting (prepared ram s (stem_voices stem d)) u).left ≡ (setting (prepared ram s d) u).left
    unfolding setting prepared after_keys after_noise
    loud_left has = ap signed_byte (whole_left ∙ left_with has 8)

    silent_left : u < 8 → bit stem u ≡ false → (setting (prepared ram s (stem_voices stem d)) u).left ≡ pos 0
    unfolding setting prepared after_keys after_noise
    silent_left near lacks = ap signed_byte (whole_left ∙ left_without lacks 8 near) ∙ refl

    loud_right : bit stem u ≡ true → (setting (prepared ram s (stem_voices stem d)) u).right ≡ (setting (prepared ram s d) u).right
    unfolding setting prepared after_keys after_noise
    loud_right has = ap signed_byte (whole_right ∙ right_with has 8)

    silent_right : u < 8 → bit stem u ≡ false → (setting (prepared ram s (stem_voices stem d)) u).right ≡ pos 0
    unfolding setting prepared after_keys after_noise
    silent_right near lacks = ap signed_byte (whole_right ∙ right_without lacks 8 near) ∙ refl

-- ---- the law

module _ (ram table : List ℕ) (s : ℕ) (d : Voices) where
  abbrev stem_of : ℕ → Voices
  stem_of v = prepared ram s (stem_voices (2 ^ v) d)

  same_of : (v : ℕ) → IsAlike (prepared ram s d) (stem_of v)
  same_of v = prepared_alike d (stem_voices (2 ^ v) d) (stem_alike (2 ^ v) d) ram s

  abbrev out_of : ℕ → ℤ
  out_of u = (turns ram table s (prepared ram s d) (suc u)).before

  left_is : (v : ℕ) → v < 8 → left_alone ram table s d v ≡ clamped_16 (left_part ram table s d v)
  unfolding sums_of turns
  left_is v near =
      alone_is (λ n. (turns ram table s (stem_of v) n).sums.left) out_of (λ u. (setting (stem_of v) u).left) v near refl
      (left_more ram table s (prepared ram s d) (stem_of v) (same_of v))
      (λ u few ne. silent_left (2 ^ v) d u ram s few (other_bit v near u few ne))
      ∙ ap (λ (z : ℤ). clamped_16 (by_volume (out_of v) z)) (loud_left (2 ^ v) d v ram s (own_bit v near))

  right_is : (v : ℕ) → v < 8 → right_alone ram table s d v ≡ clamped_16 (right_part ram table s d v)
  unfolding sums_of turns
  right_is v near =
      alone_is (λ n. (turns ram table s (stem_of v) n).sums.right) out_of (λ u. (setting (stem_of v) u).right) v near refl
      (right_more ram table s (prepared ram s d) (stem_of v) (same_of v))
      (λ u few ne. silent_right (2 ^ v) d u ram s few (other_bit v near u few ne))
      ∙ ap (λ (z : ℤ). clamped_16 (by_volume (out_of v) z)) (loud_right (2 ^ v) d v ram s (own_bit v near))

  pub left_adds : IsUnheld ram table s d → (sums_of ram table s d).left ≡ eight (left_alone ram table s d)
  unfolding sums_of turns
  left_adds h =
      all_eight (left_below ram table s d) (left_part ram table s d) refl h.left_sum
      ∙ eight_same (left_part ram table s d) (left_alone ram table s d) (λ v near. sym (left_is v near ∙ h.left_fits v near))

  pub right_adds : IsUnheld ram table s d → (sums_of ram table s d).right ≡ eight (right_alone ram table s d)
  unfolding sums_of turns
  right_adds h =
      all_eight (right_below ram table s d) (right_part ram table s d) refl h.right_sum
      ∙ eight_same (right_part ram table s d) (right_alone ram table s d) (λ v near. sym (right_is v near ∙ h.right_fits v near))
