-- A list of the frames that begin with a reset, and one with a frame more above them all.
use Rattle.std.proofs.Common.{◌≡◌, ℕ, zero, suc, ◌+◌, ◌<◌, ◌≤◌, Bool, true, false, List, [], ◌∷◌, ◌++◌, length, refl, ap, sym, ◌∙◌, ⊎_elim, arith}
use Rattle.std.specs.Prelude.{if◌then◌else◌, ◌==◌, ◌||◌}
use Rattle.std.proofs.lemmas.Bool.{cases_lt}
use Rattle.std.proofs.lemmas.Bool.Decides.{nat_tests}
use Rattle.std.proofs.lemmas.List.{append-nil}
use Rattle.snes_defs.specs.Script.{RiseWithin, is_reset}
use Rattle.audio_side.specs.Clock.{reset_frames}

-- the other frames are those that they were
pub other_frame : (xs : List ℕ) (f n : ℕ) → (f == n) ≡ false → is_reset (xs ++ f ∷ []) n ≡ is_reset xs n
other_frame [] f n ne = ap (λ b. b || false) ne
other_frame (x ∷ xs) f n ne = ap (λ b. x == n || b) (other_frame xs f n ne)

itself : (f : ℕ) → (f == f) ≡ true
itself f = grind (arith, nat_tests)

either_true : (b : Bool) → (b || true) ≡ true
either_true true = refl
either_true false = refl

pub last_frame : (xs : List ℕ) (f : ℕ) → is_reset (xs ++ f ∷ []) f ≡ true
last_frame [] f = ap (λ b. b || false) (itself f)
last_frame (x ∷ xs) f = ap (λ b. x == f || b) (last_frame xs f) ∙ either_true (x == f)

-- numbers that rise: the last is above the others
pub rise_last : (least most : ℕ) (xs : List ℕ) (f : ℕ) → RiseWithin least most (xs ++ f ∷ []) → (least ≤ f) × (f ≤ most)
rise_last least most [] f h = (h.0, h.1)
rise_last least most (x ∷ xs) f (above, below, rest) = let last = rise_last (x + 1) most xs f rest in (omega (arith, above, last.0), last.1)

pub rise_below : (least most : ℕ) (xs : List ℕ) (f n : ℕ) → RiseWithin least most (xs ++ f ∷ []) → f ≤ n → is_reset xs n ≡ false
rise_below least most [] f n h le = refl
rise_below least most (x ∷ xs) f n (above, below, rest) le =
    let last = (rise_last (x + 1) most xs f rest).0 in
    ap (λ b. b || is_reset xs n) (differ x f n last le) ∙ rise_below (x + 1) most xs f n rest le
  where
    differ : (x f n : ℕ) → x + 1 ≤ f → f ≤ n → (x == n) ≡ false
    differ x f n lt le = grind (arith, nat_tests)

-- within more, within the last alone, and with one more
pub rise_wider : (least most more : ℕ) (xs : List ℕ) → RiseWithin least most xs → RiseWithin least (most + more) xs
rise_wider least most more [] h = tt
rise_wider least most more (x ∷ xs) (above, below, rest) = (above, omega (arith, below), rise_wider (x + 1) most more xs rest)

pub rise_within : (least most : ℕ) (xs : List ℕ) (f : ℕ) → RiseWithin least most (xs ++ f ∷ []) → RiseWithin least f (xs ++ f ∷ [])
rise_within least most [] f h = (h.0, omega arith, tt)
rise_within least most (x ∷ xs) f (above, below, rest) =
    let last = (rise_last (x + 1) most xs f rest).0 in (above, omega (arith, last), rise_within (x + 1) most xs f rest)

neither : (a b : Bool) → (a || b) ≡ false → (a ≡ false) × (b ≡ false)
neither true b e = absurd cc
neither false b e = (refl, e)

pub rise_snoc : (least most : ℕ) (xs : List ℕ) (f : ℕ) → RiseWithin least f xs → is_reset xs f ≡ false → least ≤ f → f ≤ most → RiseWithin least most (xs ++ f ∷ [])
rise_snoc least most [] f h none le few = (le, few, tt)
rise_snoc least most (x ∷ xs) f (above, below, rest) none le few =
    let both = neither (x == f) (is_reset xs f) none in
    (above, omega (arith, below, few), rise_snoc (x + 1) most xs f rest both.1 (later x f below both.0) few)
  where
    later : (x f : ℕ) → x ≤ f → (x == f) ≡ false → x + 1 ≤ f
    later x f le ne = grind (arith, nat_tests)

-- they are no more than the numbers that they lie among
pub rise_few : (least most : ℕ) (xs : List ℕ) → least ≤ most + 1 → RiseWithin least most xs → length xs + least ≤ most + 1
rise_few least most [] le h = omega (arith, le)
rise_few least most (x ∷ xs) le (above, below, rest) = let few = rise_few (x + 1) most xs (omega (arith, below)) rest in omega (arith, few, above)

-- the sound side's list of them, frame by frame
module _ (xs : List ℕ) (f : ℕ) where
  frames_before : (n : ℕ) → n ≤ f → reset_frames (xs ++ f ∷ []) n ≡ reset_frames xs n
  unfolding reset_frames
  frames_before zero le = refl
  frames_before (suc n) le =
      ap (λ v. v ++ (if is_reset (xs ++ f ∷ []) n then n ∷ [] else [])) (frames_before n (omega (arith, le)))
      ∙ ap (λ b. reset_frames xs n ++ (if b then n ∷ [] else [])) (other_frame xs f n (later n le))
    where
      later : (n : ℕ) → suc n ≤ f → (f == n) ≡ false
      later n lt = grind (arith, nat_tests)

  none_from : (n : ℕ) → RiseWithin 1 36000 (xs ++ f ∷ []) → f ≤ n → is_reset xs n ≡ false
  none_from n rise le = rise_below 1 36000 xs f n rise le

  kept_from : (n : ℕ) → RiseWithin 1 36000 (xs ++ f ∷ []) → f ≤ n → (reset_frames xs n ++ f ∷ []) ≡ (reset_frames xs n ++ (if is_reset xs n then n ∷ [] else [])) ++ f ∷ []
  kept_from n rise le = ap (λ v. v ++ f ∷ []) (sym (append-nil (reset_frames xs n)) ∙ ap (λ b. reset_frames xs n ++ (if b then n ∷ [] else [])) (sym (none_from n rise le)))

  frame_past : (n : ℕ) → RiseWithin 1 36000 (xs ++ f ∷ []) → f < n → reset_frames (xs ++ f ∷ []) n ≡ reset_frames xs n ++ f ∷ []
      → reset_frames (xs ++ f ∷ []) n ++ (if is_reset (xs ++ f ∷ []) n then n ∷ [] else []) ≡ (reset_frames xs n ++ (if is_reset xs n then n ∷ [] else [])) ++ f ∷ []
  frame_past n rise more so_far =
      ap (λ b. reset_frames (xs ++ f ∷ []) n ++ (if b then n ∷ [] else [])) (other_frame xs f n (differ n more) ∙ none_from n rise (omega (arith, more)))
      ∙ append-nil (reset_frames (xs ++ f ∷ []) n) ∙ so_far ∙ kept_from n rise (omega (arith, more))
    where
      differ : (n : ℕ) → f < n → (f == n) ≡ false
      differ n more = grind (arith, nat_tests)

  frame_there : (n : ℕ) → RiseWithin 1 36000 (xs ++ f ∷ []) → f ≡ n
      → reset_frames (xs ++ f ∷ []) n ++ (if is_reset (xs ++ f ∷ []) n then n ∷ [] else []) ≡ (reset_frames xs n ++ (if is_reset xs n then n ∷ [] else [])) ++ f ∷ []
  frame_there n rise same =
      ap (λ b. reset_frames (xs ++ f ∷ []) n ++ (if b then n ∷ [] else [])) (ap (λ m. is_reset (xs ++ f ∷ []) m) (sym same) ∙ last_frame xs f)
      ∙ ap (λ v. v ++ n ∷ []) (frames_before n (omega (arith, same))) ∙ ap (λ m. reset_frames xs n ++ m ∷ []) (sym same) ∙ kept_from n rise (omega (arith, same))

  frames_past : (n : ℕ) → RiseWithin 1 36000 (xs ++ f ∷ []) → f < n → reset_frames (xs ++ f ∷ []) n ≡ reset_frames xs n ++ f ∷ []
  unfolding reset_frames
  frames_past zero rise lt = absurd (omega (arith, lt))
  frames_past (suc n) rise lt =
      ⊎_elim (λ more. frame_past n rise more (frames_past n rise more)) (λ le. frame_there n rise (omega (arith, le, lt))) (cases_lt f n)

pub frames_pressed : (xs : List ℕ) (f : ℕ) → RiseWithin 1 36000 (xs ++ f ∷ []) → reset_frames (xs ++ f ∷ []) 36001 ≡ reset_frames xs 36001 ++ f ∷ []
frames_pressed xs f rise = let most = (rise_last 1 36000 xs f rise).1 in frames_past xs f 36001 rise (omega (arith, most))

pub no_frames : (n : ℕ) → reset_frames [] n ≡ []
unfolding reset_frames
no_frames zero = refl
no_frames (suc n) = ap (λ v. v ++ []) (no_frames n)
