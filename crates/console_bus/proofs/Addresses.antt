-- A 24-bit address is a bank of 8 bits and an offset of 16.
use Rattle.std.proofs.Common.{◌≡◌, ℕ, ◌/◌, ◌%◌, arith}

pub same_bank : (addr : ℕ) → addr % 16777216 / 65536 ≡ addr / 65536 % 256
same_bank addr = omega arith

pub same_offset : (addr : ℕ) → addr % 16777216 % 65536 ≡ addr % 65536
same_offset addr = omega arith
