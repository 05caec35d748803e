-- What the digits of a sum spell, two at a time; and when a line begins with a name.
use Rattle.std.proofs.Common.{◌≡◌, ◌≢◌, ℕ, suc, ◌+◌, ◌-◌, ◌*◌, ◌<◌, Bool, true, false, ◌&&◌, nat_eq, List, [], ◌∷◌, ◌++◌, length, get_or, take, drop, Option, Some, None, refl, ap, sym, ◌∙◌, length-drop, drop-cons, arith}
use Rattle.std.specs.Prelude.{if◌then◌else◌, slice_index, slice_range}
use Rattle.std.specs.Str.{bytes_eq}
use Rattle.std.proofs.lemmas.List.{take_all}
use Rattle.std.proofs.lemmas.Slice.Eq.{bytes_eq-Decides}
use Rattle.std.proofs.lemmas.Bool.{false_from_ne_true}
use Rattle.std.proofs.lemmas.Bool.Decides.{same_from_decides, Decides-eqb}
use Rattle.frame_sums.specs.declared.file.SumPair.{SumPair}
use Rattle.frame_sums.specs.SumsFile.{digit_value, byte_value, and_more, bytes_after, pair_by, pair_behind}

-- two lists are equal or not, in either order
pub bytes_eq-sym : (a b : List ℕ) → bytes_eq a b ≡ bytes_eq b a
bytes_eq-sym a b =
    let back = bytes_eq-Decides b a in
    same_from_decides (bytes_eq a b) (bytes_eq b a) (bytes_eq-Decides a b) (λ e. sym (back.0 e), λ e. back.1 (sym e))

module _ (digits : List ℕ) (at : ℕ) (within : 2 * at + 1 < length digits) where
  abbrev Rest : List ℕ
  Rest = drop (2 * (at + 1)) digits

  -- two digits, and the others
  two_more : drop (2 * at) digits ≡ get_or digits (2 * at) 0 ∷ (get_or digits (2 * at + 1) 0 ∷ Rest)
  two_more =
      let first : 2 * at < length digits = omega (arith, within) in
      let next : suc (2 * at) ≡ 2 * at + 1 = omega arith in
      let last : suc (2 * at + 1) ≡ 2 * (at + 1) = omega arith in
      drop-cons digits (2 * at) 0 first
      ∙ ap (λ l. get_or digits (2 * at) 0 ∷ l) (
      ap (λ n. drop n digits) next
      ∙ drop-cons digits (2 * at + 1) 0 within
      ∙ ap (λ n. get_or digits (2 * at + 1) 0 ∷ drop n digits) last
      )

  -- what both digits and the others spell, behind bytes
  spelled : (before : List ℕ) (high low : Option ℕ) → digit_value (get_or digits (2 * at) 0) ≡ high → digit_value (get_or digits (2 * at + 1) 0) ≡ low
      → bytes_after before (drop (2 * at) digits) ≡ and_more (byte_value high low) (λ byte. bytes_after (before ++ byte ∷ []) Rest)
  spelled before high low h l =
      ap (λ d. bytes_after before d) two_more
      ∙ ap (λ d. and_more (byte_value d (digit_value (get_or digits (2 * at + 1) 0))) (λ byte. bytes_after (before ++ byte ∷ []) Rest)) h
      ∙ ap (λ d. and_more (byte_value high d) (λ byte. bytes_after (before ++ byte ∷ []) Rest)) l

  pub both_spelled : (before : List ℕ) (high low : ℕ) → digit_value (get_or digits (2 * at) 0) ≡ Some high → digit_value (get_or digits (2 * at + 1) 0) ≡ Some low
      → bytes_after before (drop (2 * at) digits) ≡ bytes_after (before ++ (16 * high + low) ∷ []) (drop (2 * (at + 1)) digits)
  both_spelled before high low h l = spelled before (Some high) (Some low) h l

  pub high_bad : (before : List ℕ) → digit_value (get_or digits (2 * at) 0) ≡ None → bytes_after before (drop (2 * at) digits) ≡ None
  high_bad before h = spelled before None (digit_value (get_or digits (2 * at + 1) 0)) h refl

  pub low_bad : (before : List ℕ) (high : ℕ) → digit_value (get_or digits (2 * at) 0) ≡ Some high → digit_value (get_or digits (2 * at + 1) 0) ≡ None
      → bytes_after before (drop (2 * at) digits) ≡ None
  low_bad before high h l = spelled before (Some high) None h l

-- a pair, if all four tests hold
abbrev chosen : (size same first second : Bool) → Option SumPair → Option SumPair
chosen size same first second pair = if size && (same && (first && second)) then pair else None

module _ (a b c d : Bool) (pair : Option SumPair) (p : a ≡ true) (q : b ≡ true) where
  two_hold : chosen a b c d pair ≡ chosen true true c d pair
  two_hold = ap (λ x. chosen x b c d pair) p ∙ ap (λ x. chosen true x c d pair) q

  all_hold : c ≡ true → d ≡ true → chosen a b c d pair ≡ pair
  all_hold r s = two_hold ∙ ap (λ x. chosen true true x d pair) r ∙ ap (λ x. chosen true true true x pair) s

  third_fails : c ≡ false → chosen a b c d pair ≡ None
  third_fails r = two_hold ∙ ap (λ x. chosen true true x d pair) r

  fourth_fails : c ≡ true → d ≡ false → chosen a b c d pair ≡ None
  fourth_fails r s = two_hold ∙ ap (λ x. chosen true true x d pair) r ∙ ap (λ x. chosen true true true x pair) s

is_equal : (x y : ℕ) → x ≡ y → nat_eq x y ≡ true
is_equal x y e = (Decides-eqb x y).1 e

is_other : (x y : ℕ) → x ≢ y → nat_eq x y ≡ false
is_other x y differ = false_from_ne_true (nat_eq x y) (λ e. differ ((Decides-eqb x y).0 e))

-- a slice from a place on is cut at the end
to_end : (n : ℕ) (l : List ℕ) → take (length l - n) (drop n l) ≡ drop n l
to_end n l = take_all (length l - n) (drop n l) (omega (arith, length-drop n l))

-- a line that begins with a name, and is as long as one with two sums behind it
module _ (name line : List ℕ) (size : length line ≡ length name + 130) (begins : bytes_eq name (take (length name) line) ≡ true) where
  abbrev Behind : List ℕ
  Behind = drop (length name) line

  -- the slice that the code takes
  abbrev Cut : List ℕ
  Cut = take (length line - length name) (drop (length name) line)

  abbrev Pair : Option SumPair
  Pair = pair_by (bytes_after [] (slice_range Behind 1 65)) (bytes_after [] (drop 66 Behind))

  pair_chosen : pair_behind name line ≡ chosen (nat_eq (length line) (length name + 130)) (bytes_eq (take (length name) line) name) (nat_eq (slice_index Behind 0) 44) (nat_eq (slice_index Behind 65) 44) Pair
  unfolding pair_behind
  pair_chosen = refl

  same : bytes_eq (take (length name) line) name ≡ true
  same = bytes_eq-sym (take (length name) line) name ∙ begins

  cut : Cut ≡ Behind
  cut = to_end (length name) line

  at_comma : (at : ℕ) → slice_index Cut at ≡ 44 → nat_eq (slice_index Behind at) 44 ≡ true
  at_comma at is = is_equal (slice_index Behind at) 44 (ap (λ l. slice_index l at) (sym cut) ∙ is)

  at_other : (at : ℕ) → slice_index Cut at ≢ 44 → nat_eq (slice_index Behind at) 44 ≡ false
  at_other at differ = is_other (slice_index Behind at) 44 (λ e. differ (ap (λ l. slice_index l at) cut ∙ e))

  pub pair_read : (picture sound : Option (List ℕ)) → slice_index Cut 0 ≡ 44 → slice_index Cut 65 ≡ 44
      → bytes_after [] (slice_range Cut 1 65) ≡ picture → bytes_after [] (take (length Cut - 66) (drop 66 Cut)) ≡ sound → pair_behind name line ≡ pair_by picture sound
  pair_read picture sound first second p s =
      pair_chosen
      ∙ all_hold _ _ _ _ Pair (is_equal _ _ size) same (at_comma 0 first) (at_comma 65 second)
      ∙ ap (λ x. pair_by x (bytes_after [] (drop 66 Behind))) (ap (λ l. bytes_after [] (slice_range l 1 65)) (sym cut) ∙ p)
      ∙ ap (λ x. pair_by picture x) (
      ap (λ l. bytes_after [] l) (sym (to_end 66 Behind))
      ∙ ap (λ l. bytes_after [] (take (length l - 66) (drop 66 l))) (sym cut)
      ∙ s
      )

  pub first_bad : slice_index Cut 0 ≢ 44 → pair_behind name line ≡ None
  first_bad first = pair_chosen ∙ third_fails _ _ _ _ Pair (is_equal _ _ size) same (at_other 0 first)

  pub second_bad : slice_index Cut 0 ≡ 44 → slice_index Cut 65 ≢ 44 → pair_behind name line ≡ None
  second_bad first second = pair_chosen ∙ fourth_fails _ _ _ _ Pair (is_equal _ _ size) same (at_comma 0 first) (at_other 65 second)
