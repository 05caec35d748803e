-- The 64-bit FNV-1a hash, byte by byte.
use Rattle.std.specs.Prelude.{ℕ, ◌*◌, ◌%◌, ◌^◌, bit_xor}

abbrev pub hash_start : ℕ
hash_start = 0xCBF29CE484222325

abbrev pub hash_after : ℕ → ℕ → ℕ
hash_after hash byte = (bit_xor hash byte * 0x100000001B3) % 2 ^ 64
