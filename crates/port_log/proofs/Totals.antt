-- Sums over lists that change at one place.
use Rattle.std.proofs.Common.{◌≡◌, ℕ, zero, suc, ◌+◌, ◌≤◌, ◌≢◌, List, [], ◌∷◌, ◌++◌, set, sym, refl, ap, arith}
use mathlib.Core.Option.{some, some-injective, some-ne-none}
use lib.ListN.{get_elem?}
use Rattle.port_log.specs.Sums.{total}

module _ {A : Type 0} (g : A → ℕ) where
  pub total-append : (l m : List A) → total g (l ++ m) ≡ total g l + total g m
  total-append [] m = omega arith
  total-append (x ∷ xs) m = omega (arith, total-append xs m)

  pub total-set : (l : List A) (j : ℕ) (v w : A) → get_elem? l j ≡ some v
      → total g (set l j w) + g v ≡ total g l + g w
  total-set [] j v w e = absurd (some-ne-none v (sym e))
  total-set (x ∷ xs) zero v w e = omega (arith, ap g (some-injective x v e))
  total-set (x ∷ xs) (suc j) v w e = omega (arith, total-set xs j v w e)

  pub one-le : (l : List A) (j : ℕ) (v : A) → get_elem? l j ≡ some v → g v ≤ total g l
  one-le [] j v e = absurd (some-ne-none v (sym e))
  one-le (x ∷ xs) zero v e = omega (arith, ap g (some-injective x v e))
  one-le (x ∷ xs) (suc j) v e = omega (arith, one-le xs j v e)

  pub two-le : (l : List A) (j k : ℕ) (v u : A) → k ≢ j → get_elem? l j ≡ some v → get_elem? l k ≡ some u
      → g v + g u ≤ total g l
  two-le [] j k v u n e d = absurd (some-ne-none v (sym e))
  two-le (x ∷ xs) zero zero v u n e d = absurd (n refl)
  two-le (x ∷ xs) zero (suc k) v u n e d = omega (arith, ap g (some-injective x v e), one-le xs k u d)
  two-le (x ∷ xs) (suc j) zero v u n e d = omega (arith, ap g (some-injective x u d), one-le xs j v e)
  two-le (x ∷ xs) (suc j) (suc k) v u n e d = omega (arith, two-le xs j k v u (λ h. n (ap suc h)) e d)

module _ {A : Type 0} (f g : A → ℕ) (below : (a : A) → f a ≤ g a) where
  pub total-le : (l : List A) → total f l ≤ total g l
  total-le [] = omega arith
  total-le (x ∷ xs) = omega (arith, below x, total-le xs)

  -- where one term is less by so much, so is the sum
  pub total-less : (l : List A) (j : ℕ) (v : A) → get_elem? l j ≡ some v → total f l + g v ≤ total g l + f v
  total-less [] j v e = absurd (some-ne-none v (sym e))
  total-less (x ∷ xs) zero v e =
      omega (arith, ap f (some-injective x v e), ap g (some-injective x v e), total-le xs)
  total-less (x ∷ xs) (suc j) v e = omega (arith, below x, total-less xs j v e)
