-- A pair of bits, moved down by its place.
use Rattle.std.proofs.Common.{◌≡◌, ℕ, zero, suc, ◌*◌, ◌/◌, ◌%◌, ◌<◌, ◌^◌, arith}
use Rattle.ppu_objects.specs.Objects.{pair_at}

pub pair_is : (byte k : ℕ) → byte < 256 → k < 4 → byte / 2 ^ (2 * k) % 4 ≡ pair_at byte k
unfolding pair_at
pair_is byte zero b h = omega (arith, b)
pair_is byte (suc zero) b h = omega (arith, b)
pair_is byte (suc (suc zero)) b h = omega (arith, b)
pair_is byte (suc (suc (suc zero))) b h = omega (arith, b)
pair_is byte (suc (suc (suc (suc k)))) b h = absurd (omega arith)
