-- The boot ROM over RAM, byte by byte.
use Rattle.std.proofs.Common.{◌≡◌, ℕ, ◌+◌, List, refl, add-one, slice_index, slice_set}
use Rattle.audio_side.specs.Kept.{under_boot}

pub no_byte : (ram' boot' : List ℕ) → under_boot ram' boot' 0 ≡ ram'
unfolding under_boot
no_byte ram' boot' = refl

pub one_more_byte : (ram' boot' : List ℕ) (n : ℕ) → under_boot ram' boot' (n + 1) ≡ slice_set (under_boot ram' boot' n) (0xFFC0 + n) (slice_index boot' n)
unfolding under_boot
one_more_byte ram' boot' n = rw add-one refl
