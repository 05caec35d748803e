-- One more key is looked at.
use Rattle.std.proofs.Common.{◌≡◌, ℕ, zero, suc, ◌+◌, ◌/◌, ◌%◌, ◌<◌, ◌==◌, ◌||◌, Bool, List, slice_index, max, refl, ap, sym, ◌∙◌, add-one, arith}
use Rattle.scanline_ops.specs.RankedPixels.{is_any_named, is_named}
use Rattle.scanline_ops.proofs.ranked_pixels.any_named.Goals as goal

greater_bit : (b m : ℕ) → b < 2 → m < 2 → (max b m == 1) ≡ ((m == 1) || (b == 1))
greater_bit zero zero hb hm = refl
greater_bit zero (suc zero) hb hm = refl
greater_bit (suc zero) zero hb hm = refl
greater_bit (suc zero) (suc zero) hb hm = refl
greater_bit zero (suc (suc m)) hb hm = absurd (omega arith)
greater_bit (suc zero) (suc (suc m)) hb hm = absurd (omega arith)
greater_bit (suc (suc b)) m hb hm = absurd (omega arith)

one_more : (keys : List ℕ) (n : ℕ) → is_any_named keys (n + 1) ≡ (is_any_named keys n || is_named (slice_index keys n))
unfolding is_any_named
one_more keys n = rw add-one refl

next_is : (keys : List ℕ) (n b m : ℕ) → b ≡ slice_index keys n / 8 % 2 → m < 2 → (m == 1) ≡ is_any_named keys n →
    (max b m == 1) ≡ is_any_named keys (n + 1)
next_is keys n b m hb hm found =
    let small : b < 2 = omega (arith, hb) in
    greater_bit b m small hm
    ∙ ap (λ (t : Bool). t || (b == 1)) found
    ∙ ap (λ (k : ℕ). is_any_named keys n || (k == 1)) hb
    ∙ sym (one_more keys n)

pub loop-x-init : goal.loop-x-init
unfolding is_any_named
loop-x-init c = record { small = omega arith; found = refl }

pub loop-x-preserved : goal.loop-x-preserved
loop-x-preserved c =
    let here = c.max-most.ensures in
    record {
      small = (let bit = c.name_bit.ensures in let most = c.loop-x.invariant.small in omega (arith, here, bit, most));
      found = ap (λ (n : ℕ). n == 1) here
          ∙ next_is c.args.keys.now c.loop-x.x c.name_bit.result c.loop-x.most c.name_bit.ensures c.loop-x.invariant.small c.loop-x.invariant.found;
    }
