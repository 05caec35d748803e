-- ADC, SBC and CMP of bytes, with their flags (nocash fullsnes, "SNES APU SPC700 CPU ALU Commands").
use Rattle.std.specs.Prelude.{ℕ, Bool, not, ◌&&◌, ◌+◌, ◌-◌, ◌%◌, ◌==◌, nat_le}
use Rattle.status_bits.specs.StatusBits.{flag, put}
use Rattle.spc_tables.specs.declared.flags.TheConstants.{CARRY, HALF_CARRY, OVERFLOW}
use Rattle.spc_alu.specs.Status.{bit_of, sign, with_nz}
use Rattle.spc_alu.specs.declared.changes.Changed.{Changed}

-- the signed sum t of a and m doesn't fit: its sign is neither that of a nor that of m
abbrev pub overflow : ℕ → ℕ → ℕ → Bool
overflow a m t = not (sign t == sign a) && not (sign t == sign m)

-- ADC: a plus m plus C. H is the carry out of bit 3, C that out of bit 7.
unfoldable pub add : ℕ → ℕ → ℕ → Changed
add psw a m =
    let c = bit_of (flag psw CARRY) in
    let t = a + m + c in
    record {
      value = t % 256;
      psw = put (put (put (with_nz (t % 256) psw) CARRY (nat_le 256 t)) HALF_CARRY (nat_le 16 (a % 16 + m % 16 + c))) OVERFLOW (overflow a m t);
    }

-- SBC: a plus the complement of m plus C
unfoldable pub subtract : ℕ → ℕ → ℕ → Changed
subtract psw a m = add psw a (255 - m)

-- PSW after a comparison of v with m: N and Z are those of the difference, and C is set where it isn't below 0
unfoldable pub compare : ℕ → ℕ → ℕ → ℕ
compare psw v m = put (with_nz ((v + 256 - m) % 256) psw) CARRY (nat_le m v)
