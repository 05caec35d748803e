-- Lemmas on the folding of a ROM.
use Rattle.std.proofs.Common.{◌≡◌, ℕ, zero, suc, ◌+◌, ◌-◌, ◌*◌, ◌%◌, ◌^◌, ◌<◌, ◌≤◌, Bool, ◌||◌, arith, refl, sym, ◌∙◌, ap}
use Rattle.std.specs.Prelude.{nat_le, nat_lt, nat_eq, if◌then◌else◌}
use Rattle.std.proofs.Math.Nat.{pow-succ', mod-eq_of_lt, mod-eq-sub-mod}
use Rattle.std.proofs.Math.Pow.{pow-lt}
use Rattle.std.proofs.lemmas.Nat.{one_shl}
use Rattle.cart_map.specs.Fold.{fold, fold_below}

-- a number of bits above 0 is one more than the bits of its half
before : (bits : ℕ) → 0 < bits → bits ≡ suc (bits - 1)
before zero some = absurd (omega arith)
before (suc bits) some = omega arith

-- two halves are the whole
pub two_halves : (bits : ℕ) → 0 < bits → 2 * 2 ^ (bits - 1) ≡ 2 ^ bits
two_halves zero some = absurd (omega arith)
two_halves (suc bits) some =
    let same : suc bits - 1 ≡ bits = omega arith in
    rw same (sym (pow-succ' 2 bits))

-- the shift that makes a half
pub half_shift : (bits : ℕ) → 0 < bits → bits ≤ 22 → 1 * 2 ^ (bits - 1) % 4294967296 ≡ 2 ^ (bits - 1)
half_shift bits some few = one_shl (bits - 1) 32 (omega arith)

-- a half of 22 bits is small
pub half_small : (bits : ℕ) → 0 < bits → bits ≤ 22 → 2 ^ (bits - 1) < 2147483648
half_small bits some few =
    let few' : bits - 1 < 31 = omega arith in
    pow-lt few'

-- an offset below two halves is seen in one
pub seen_in_half : (offset half : ℕ) → half ≤ offset → offset < 2 * half → offset % half ≡ offset - half
seen_in_half offset half upper within = mod-eq-sub-mod upper ∙ mod-eq_of_lt (omega arith)

-- the definition, by a number of bits above 0
pub fold_below_at : (bits size offset : ℕ) → 0 < bits → fold_below bits size offset ≡
    (if nat_le size (2 ^ (bits - 1)) then fold_below (bits - 1) size (offset % 2 ^ (bits - 1))
    else (if nat_eq size (2 * 2 ^ (bits - 1)) || nat_lt offset (2 ^ (bits - 1)) then offset
    else 2 ^ (bits - 1) + fold_below (bits - 1) (size - 2 ^ (bits - 1)) (offset - 2 ^ (bits - 1))))
unfolding fold_below
fold_below_at zero size offset some = absurd (omega arith)
fold_below_at (suc bits) size offset some =
    let same : suc bits - 1 ≡ bits = omega arith in
    rw same refl

-- no bits, no offset
pub fold_below_none : (size offset : ℕ) → fold_below 0 size offset ≡ 0
unfolding fold_below
fold_below_none size offset = refl
