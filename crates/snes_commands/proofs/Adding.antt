-- Sums of bytes, as 64 bits keep them.
use Rattle.std.proofs.Common.{◌≡◌, ℕ, ◌+◌, ◌%◌, ◌^◌, List, ◌++◌, sum, sym, ap, ◌∙◌}
use Rattle.std.proofs.Math.Nat.{mod-add-mod}
use Rattle.std.proofs.lemmas.List.Sums.{sum_by-append}
use Rattle.snes_commands.specs.Demo.{sum_in}

sum_append : (xs ys : List ℕ) → sum (xs ++ ys) ≡ sum xs + sum ys
sum_append xs ys = sum_by-append (λ x. x) xs ys

-- the sum of more bytes behind others
pub sum_more : (start : ℕ) (had bytes : List ℕ) → start ≡ sum_in had → (start + sum bytes) % 2 ^ 64 ≡ sum_in (had ++ bytes)
sum_more start had bytes is =
    ap (λ n. (n + sum bytes) % 2 ^ 64) is ∙ mod-add-mod (sum had) (2 ^ 64) (sum bytes) ∙ ap (λ n. n % 2 ^ 64) (sym (sum_append had bytes))

-- one byte more of a sum that is kept so
pub wraps : (total sum byte : ℕ) → total ≡ sum % 2 ^ 64 → (total + byte) % 2 ^ 64 ≡ (sum + byte) % 2 ^ 64
wraps total sum byte is = ap (λ n. (n + byte) % 2 ^ 64) is ∙ mod-add-mod sum (2 ^ 64) byte

pub ruleset sums = (sum_more, wraps)
