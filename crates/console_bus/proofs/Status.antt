-- The bytes of 2137 and 213F.
use Rattle.std.proofs.Common.{◌≡◌, ℕ, ◌≤◌, ◌+◌, ◌*◌, Bool, true, false, refl, arith}
use Rattle.ppu_regs.specs.Picture.{Picture}
use Rattle.ppu_regs.specs.Reads.{byte_read, status_two, bit_of}

-- 2137 gives the byte last on the data bus
pub latch_gives_bus : (p : Picture) (bus : ℕ) → byte_read p 0x37 bus ≡ bus
unfolding byte_read
latch_gives_bus p bus = refl

small_bits : (latched : Bool) → 64 * bit_of latched + 1 ≤ 65
small_bits true = omega arith
small_bits false = omega arith

-- bits 4 and 7 of 213F are 0, and no others are lost by adding them
pub small_status : (p : Picture) (bus : ℕ) → byte_read p 0x3f bus ≤ 65
unfolding byte_read status_two
small_status p bus = small_bits p.registers.counters.latched
