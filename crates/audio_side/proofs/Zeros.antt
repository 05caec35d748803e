-- The zeros of RAM, told by their number.
use Rattle.std.proofs.Common.{◌≡◌, ℕ, zero, suc, List, [], ◌∷◌, length, All, replicate, refl, arith}
use Rattle.std.proofs.lemmas.List.Elements.{All-head, All-tail}
use Rattle.audio_side.specs.HardwareState.{ram_size, zeros}

-- a list of zeros is told by its length
same_zeros : (xs : List ℕ) (n : ℕ) → length xs ≡ n → All (λ b. b ≡ 0) xs → xs ≡ replicate n 0
same_zeros [] zero size all = refl
same_zeros [] (suc n) size all = absurd (omega arith)
same_zeros (x ∷ xs) zero size all = absurd (omega arith)
same_zeros (x ∷ xs) (suc n) size all =
    let head = All-head (λ b. b ≡ 0) x xs all in
    let rest = same_zeros xs n (omega arith) (All-tail (λ b. b ≡ 0) x xs all) in
    cc

pub zeros_is : (xs : List ℕ) → length xs ≡ 65536 → All (λ b. b ≡ 0) xs → xs ≡ zeros
unfolding zeros ram_size
zeros_is xs size all = same_zeros xs ram_size size all
