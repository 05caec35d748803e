-- How long an access lasts. Source: fullsnes, "SNES Memory Speed".
use Rattle.std.specs.Prelude.{ℕ, ◌/◌, ◌%◌, Bool, nat_lt, ◌&&◌, if◌then◌else◌}

-- whether MEMSEL makes the ROM of this bank fast: banks 80 to FF
abbrev pub is_fast_bank : ℕ → Bool
is_fast_bank bank = nat_lt 0x7f bank

-- the clocks of the lower half of banks 00 to 3F and 80 to BF, by the 16-bit offset
abbrev pub system_clocks : ℕ → ℕ
system_clocks offset =
    if nat_lt offset 0x2000 then 8
    else (if nat_lt offset 0x4000 then 6
    else (if nat_lt offset 0x4200 then 12
    else (if nat_lt offset 0x6000 then 6
    else 8)))

-- the clocks of an access at a 24-bit address, where `fast` is bit 0 of MEMSEL
abbrev pub clocks_of : ℕ → Bool → ℕ
clocks_of addr fast =
    if nat_lt (addr / 65536 % 128) 64 && nat_lt (addr % 65536) 0x8000 then system_clocks (addr % 65536)
    else (if is_fast_bank (addr / 65536) && fast then 6 else 8)
