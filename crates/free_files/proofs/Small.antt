-- No number of the table is above 2,047.
use Rattle.std.proofs.Common.{◌≡◌, ℕ, true, ◌≤◌, ◌<◌, nat_lt, refl, arith}
use Rattle.std.specs.List.{All, list_all}
use Rattle.std.proofs.lemmas.Bool.{ltb-true}
use Rattle.std.proofs.lemmas.List.Sums.{AllPass-from_list_all}
use Rattle.free_files.specs.Interpolation.{interpolation}

all_pass : list_all (λ n. nat_lt n 2048) interpolation ≡ true
unfolding interpolation
all_pass = refl

below : (n : ℕ) → nat_lt n 2048 ≡ true → n ≤ 2047
below n passes =
    let less : n < 2048 = ltb-true n 2048 passes in
    omega arith

pub all_small : All (λ n. n ≤ 2047) interpolation
all_small = λ k d h. below _ (AllPass-from_list_all (λ n. nat_lt n 2048) interpolation all_pass k d h)
