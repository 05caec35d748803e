-- How a ROM of any size is seen through offsets of 22 bits. This project's own profile, which agrees with the mirrors of
-- fullsnes ("SNES Cartridge ROM Mirrors") where a size is the sum of two powers of two.
use Rattle.std.specs.Prelude.{ℕ, zero, suc, ◌+◌, ◌-◌, ◌*◌, ◌%◌, ◌^◌, nat_le, nat_lt, nat_eq, ◌||◌, if◌then◌else◌}

-- The offset in a ROM of `size` bytes at which an offset below 2^bits is seen. A ROM that half of the offsets can name
-- is seen twice. Else it has a first half of 2^(bits-1) bytes, seen as it is, and behind it the rest of the ROM, which is
-- seen through the upper half of the offsets in the same way; a ROM of 2^bits bytes is seen as it is.
unfoldable pub fold_below : ℕ → ℕ → ℕ → ℕ
fold_below zero size offset = 0
fold_below (suc bits) size offset =
    if nat_le size (2 ^ bits) then fold_below bits size (offset % 2 ^ bits)
    else (if nat_eq size (2 * 2 ^ bits) || nat_lt offset (2 ^ bits) then offset
    else 2 ^ bits + fold_below bits (size - 2 ^ bits) (offset - 2 ^ bits))

-- The offset in a ROM of `size` bytes at which an offset, modulo 2^22, is seen. The largest ROM has 4 MiB, 2^22 bytes.
unfoldable pub fold : ℕ → ℕ → ℕ
fold size offset = fold_below 22 size (offset % 0x400000)
