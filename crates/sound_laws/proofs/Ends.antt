-- Of the voices that the second profile has looked at, none is heard in its last block.
use Rattle.std.proofs.Common.{◌≡◌, ◌∙◌, ℕ, zero, suc, Bool, true, false, ◌<◌, List, IsTrue, length, slice_index_or, refl, ap, sym, subst, arith, ⊎_elim, if◌then◌else◌}
use Rattle.std.proofs.lemmas.Bool.{cases_eq, cases_lt, true≢false}
use Rattle.std.proofs.lemmas.List.{get_or-set_other, get_or-set_same, get_or_past, length-set}
use Rattle.snes_defs.specs.declared.profile.Profile.{Profile}
use Rattle.snes_defs.specs.declared.profile.Profile.TheVariants.{Second}
use Rattle.sdsp_voice.specs.Keys.{muted}
use Rattle.sdsp_voice.specs.Registers.{resting_voice}
use Rattle.sdsp_voice.specs.Sample.{after_sample, after_turns, cut, cut_below, is_in_last_block, prepared, turns}
use Rattle.sdsp_voice.specs.declared.voice.Voice.{Voice}
use Rattle.sdsp_voice.specs.declared.voices.Voices.{Voices}
use Rattle.sound_laws.specs.Ends.{HasCutEnds, IsCut}

by_test : {P : Type 0} (b : Bool) → (b ≡ true → P) → (b ≡ false → P) → P
by_test true f g = f refl
by_test false f g = g refl

-- a look at a voice leaves its block
cut_ends : (ram : List ℕ) (w : Voice) → IsTrue (is_in_last_block ram (cut ram w)) → IsCut (cut ram w)
unfolding cut
cut_ends ram w h =
    by_test (is_in_last_block ram w)
    (λ e. subst (λ (b : Bool). IsCut (if b then muted w else w)) (sym e) (record { silent = refl; released = refl }))
    (λ e. absurd (true≢false (sym (subst (λ (b : Bool). is_in_last_block ram (if b then muted w else w) ≡ true) e h) ∙ e)))

module _ (ram : List ℕ) (xs : List Voice) where
  abbrev looked_at : ℕ → ℕ → Voice
  looked_at n v = slice_index_or (cut_below ram xs n) v resting_voice

  same_length : (n : ℕ) → length (cut_below ram xs n) ≡ length xs
  unfolding cut_below
  same_length zero = refl
  same_length (suc n) = length-set (cut_below ram xs n) n _ ∙ same_length n

  -- the first n voices
  first_ends : (n v : ℕ) → v < n → v < length xs → IsTrue (is_in_last_block ram (looked_at n v)) → IsCut (looked_at n v)
  unfolding cut_below
  first_ends zero v few there h = absurd (omega (arith, few))
  first_ends (suc n) v few there h =
      let P : Voice → Type 0 = λ w. IsTrue (is_in_last_block ram w) → IsCut w in
      ⊎_elim
      (λ (e : v ≡ n).
      let new : looked_at (suc n) n ≡ cut ram (looked_at n n) =
      get_or-set_same (cut_below ram xs n) n _ resting_voice (omega (arith, e, there, same_length n)) in
      subst (λ (i : ℕ). P (looked_at (suc n) i)) (sym e) (subst P (sym new) (cut_ends ram (looked_at n n))) h)
      (λ apart.
      let old : looked_at (suc n) v ≡ looked_at n v = get_or-set_other (cut_below ram xs n) n v _ resting_voice apart in
      subst P (sym old) (first_ends n v (omega (arith, few, apart)) there) h)
      (cases_eq v n)

-- after a sample. Past the end of a list there is a voice at rest
pub ends_are_cut : (ram table : List ℕ) (s : ℕ) (d new : Voices) → d.profile ≡ Second → new ≡ after_sample ram table s d → HasCutEnds ram new
unfolding after_sample after_turns
ends_are_cut ram table s d new second is =
    let xs = (turns ram table s (prepared ram s d) 8).voices in
    let all : new.voices ≡ cut_below ram xs 8 = ap (λ (x : Voices). x.voices) is ∙ ap (λ (p : Profile). after_turns p ram xs) second in
    let P : Voice → Type 0 = λ w. IsTrue (is_in_last_block ram w) → IsCut w in
    λ v few. (
    subst (λ (ys : List Voice). P (slice_index_or ys v resting_voice)) (sym all)
    (⊎_elim (first_ends ram xs 8 v few)
    (λ past. subst P (sym (get_or_past (cut_below ram xs 8) v resting_voice (omega (arith, past, same_length ram xs 8)))) (λ h. record { silent = refl; released = refl }))
    (cases_lt v (length xs))))
