-- MUL, DIV, DAA, DAS and XCN (nocash fullsnes, "SNES APU SPC700 CPU ALU Commands").
use Rattle.std.specs.Prelude.{ℕ, Bool, not, ◌||◌, ◌+◌, ◌-◌, ◌*◌, ◌/◌, ◌%◌, nat_lt, nat_le, if◌then◌else◌}
use Rattle.status_bits.specs.StatusBits.{flag, put}
use Rattle.spc_tables.specs.declared.flags.TheConstants.{CARRY, HALF_CARRY, OVERFLOW}
use Rattle.spc_tables.specs.declared.regs.SpcRegs.{SpcRegs}
use Rattle.spc_alu.specs.Status.{load_a, with_nz}
use Rattle.spc_alu.specs.Words.{ya, put_ya}

-- MUL: YA is Y times A; N and Z are those of the high byte
unfoldable pub multiply : SpcRegs → SpcRegs
multiply r =
    let product = r.y * r.a in
    record (put_ya r product) { psw = with_nz (product / 256) r.psw }

-- DIV: whether the quotient is below 512, where the divider's result is the quotient
abbrev pub is_divided : SpcRegs → Bool
is_divided r = nat_lt r.y (2 * r.x)

-- the quotient where it is too large: what the divider's steps of subtraction leave, 255 minus the number of times that
-- 256 - X goes into YA - 512 X
abbrev pub overrun : SpcRegs → ℕ
overrun r = ya r - 512 * r.x

abbrev pub quotient : SpcRegs → ℕ
quotient r = if is_divided r then ya r / r.x % 256 else (65535 + 256 - overrun r / (256 - r.x)) % 256

abbrev pub remainder : SpcRegs → ℕ
remainder r = if is_divided r then ya r % r.x else (r.x + overrun r % (256 - r.x)) % 256

-- DIV: V tells a quotient of more than a byte, H compares the low digits; N and Z are those of the quotient
unfoldable pub divide : SpcRegs → SpcRegs
divide r =
    record r {
      a = quotient r;
      y = remainder r;
      psw = with_nz (quotient r) (put (put r.psw HALF_CARRY (nat_le (r.x % 16) (r.y % 16))) OVERFLOW (nat_le r.x r.y));
    }

-- DAA: after an addition of decimal digits. First the high digit, by C or where A is above 99 in digits; then the low one,
-- by H or where it is above 9.
abbrev pub has_high_carry : SpcRegs → Bool
has_high_carry r = flag r.psw CARRY || nat_lt 0x99 r.a

abbrev pub adjusted_high : SpcRegs → ℕ
adjusted_high r = if has_high_carry r then (r.a + 0x60) % 256 else r.a

unfoldable pub decimal_adjust : SpcRegs → SpcRegs
decimal_adjust r =
    let high = adjusted_high r in
    let a = (if flag r.psw HALF_CARRY || nat_lt 9 (high % 16) then (high + 6) % 256 else high) in
    load_a (record r { psw = put r.psw CARRY (has_high_carry r) }) a

-- DAS: after a subtraction of decimal digits. C and H are clear where there was a borrow.
abbrev pub has_high_borrow : SpcRegs → Bool
has_high_borrow r = not (flag r.psw CARRY) || nat_lt 0x99 r.a

abbrev pub adjusted_down : SpcRegs → ℕ
adjusted_down r = if has_high_borrow r then (r.a + 256 - 0x60) % 256 else r.a

unfoldable pub decimal_adjust_down : SpcRegs → SpcRegs
decimal_adjust_down r =
    let high = adjusted_down r in
    let a = (if not (flag r.psw HALF_CARRY) || nat_lt 9 (high % 16) then (high + 256 - 6) % 256 else high) in
    load_a (record r { psw = put r.psw CARRY (not (has_high_borrow r)) }) a

-- XCN: the digits of A change places
unfoldable pub exchange_digits : SpcRegs → SpcRegs
exchange_digits r = load_a r (r.a % 16 * 16 + r.a / 16)
