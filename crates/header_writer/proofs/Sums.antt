-- Lemmas on sums of bytes.
use Rattle.std.proofs.Common.{◌≡◌, ℕ, zero, suc, ◌+◌, ◌-◌, ◌*◌, ◌/◌, ◌<◌, List, length, take, drop, arith, refl}
use Rattle.std.specs.Prelude.{nat_le, if◌then◌else◌, sum}
use Rattle.header_writer.specs.Checksum.{seen_sum}

-- the definition, by a number of doublings above 0
pub seen_sum_at : (doubled window : ℕ) (bytes : List ℕ) → 0 < doubled → seen_sum doubled window bytes ≡
    (if nat_le (length bytes) (window / 2) then 2 * seen_sum (doubled - 1) (window / 2) bytes
    else sum (take (window / 2) bytes) + seen_sum (doubled - 1) (window / 2) (drop (window / 2) bytes))
unfolding seen_sum
seen_sum_at zero window bytes some = absurd (omega arith)
seen_sum_at (suc doubled) window bytes some =
    let same : suc doubled - 1 ≡ doubled = omega arith in
    rw same refl

-- no doubling: one page
pub seen_sum_page : (window : ℕ) (bytes : List ℕ) → seen_sum 0 window bytes ≡ sum bytes
unfolding seen_sum
seen_sum_page window bytes = refl
