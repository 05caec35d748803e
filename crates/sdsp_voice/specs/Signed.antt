-- Signed numbers as the S-DSP's adders leave them: cut to 15 or 16 bits, or held at the ends of 16 (nocash fullsnes, "SNES APU DSP").
use Rattle.std.specs.Prelude.{ℕ, ℤ, pos, ◌*◌, ◌%◌}
use Rattle.std.specs.Int.{w8, w16, w32, cast_signed, cast_unsigned, int_shr, int_max, int_min}
use Rattle.std.specs.Prelude.{negsuc}

-- z divided by 2 to the power of k, rounded down
abbrev pub shifted : ℤ → ℕ → ℤ
shifted z k = int_shr z k

-- a byte as a signed number, -128 to 127
abbrev pub signed_byte : ℕ → ℤ
signed_byte b = cast_signed w8 b

-- the low 16 bits of z as a signed number
unfoldable pub wrapped_16 : ℤ → ℤ
wrapped_16 z = cast_signed w16 (cast_unsigned w32 z % 65536)

-- the low 15 bits of z as a signed number
unfoldable pub wrapped_15 : ℤ → ℤ
wrapped_15 z = shifted (cast_signed w16 (2 * (cast_unsigned w32 z % 32768))) 1

-- the nearest number to z from -32768 to 32767
unfoldable pub clamped_16 : ℤ → ℤ
clamped_16 z = int_max (negsuc 32767) (int_min z (pos 32767))
