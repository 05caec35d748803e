-- The generator of bytes and of tables.
use Rattle.std.specs.Prelude.{ℕ, zero, suc, ◌+◌, ◌*◌, ◌/◌, ◌%◌, ◌^◌, bit_and}

-- the number after x
abbrev pub number_after : ℕ → ℕ
number_after x = (1664525 * x + 1013904223) % 2 ^ 32

-- the number that so many steps make of x
abbrev pub numbers_after : ℕ → ℕ → ℕ
numbers_after zero x = x
numbers_after (suc n) x = number_after (numbers_after n x)

-- the AND of the upper bytes of so many numbers after x
abbrev pub byte_after : ℕ → ℕ → ℕ
byte_after zero x = 255
byte_after (suc n) x = bit_and (byte_after n x) (numbers_after (suc n) x / 2 ^ 24)
