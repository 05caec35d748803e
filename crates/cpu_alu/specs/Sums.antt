-- ADC and SBC in binary and in decimal, comparisons, and BIT (W65C816S data sheet, operations and status
-- register).
use Rattle.std.specs.Prelude.{ℕ, zero, suc, Bool, not, ◌&&◌, ◌+◌, ◌-◌, ◌*◌, ◌/◌, ◌%◌, ◌^◌, ◌==◌, nat_lt, nat_le, bit_and, if◌then◌else◌}
use Rattle.status_bits.specs.StatusBits.{flag, put}
use Rattle.cpu_tables.specs.declared.regs.Regs.{Regs}
use Rattle.cpu_tables.specs.declared.flags.TheConstants.{CARRY, ZERO, DECIMAL, OVERFLOW, NEGATIVE}
use Rattle.cpu_tables.specs.Status.{size, memory_size}
use Rattle.cpu_alu.specs.declared.sums.Digits.{Digits}
use Rattle.cpu_alu.specs.declared.sums.Direction.{Direction}
use Rattle.cpu_alu.specs.declared.sums.Direction.TheVariants.{Addition, Subtraction}
use Rattle.cpu_alu.specs.declared.sums.Sum.{Sum}
use Rattle.cpu_alu.specs.Width.{accumulator, bit_of, top_bit, next_bit, with_nz, load_a}

-- the signed sum t of a and m doesn't fit: its sign is neither that of a nor that of m
abbrev pub overflow : ℕ → ℕ → ℕ → ℕ → Bool
overflow size a m t = not (top_bit size t == top_bit size a) && not (top_bit size t == top_bit size m)

-- the sum of a, m and a carry in binary
unfoldable pub binary_sum : ℕ → ℕ → ℕ → ℕ → Sum
binary_sum size a m c =
    let t = a + m + c in
    record { value = t % size; carry = nat_le size t; overflow = overflow size a m t }

-- A decimal digit and its carry, from the sum t of two digits and a carry. An addition adds 6 where t is
-- above 9, and carries where that is above 15. A subtraction adds the complement of its operand, carries
-- where t is above 15, and else subtracts 6, modulo 16.
unfoldable pub corrected : Direction → ℕ → Digits
corrected Addition t =
    let u = (if nat_lt 9 t then t + 6 else t) in
    record { value = u % 16; carry = nat_lt 15 u }
corrected Subtraction t =
    record { value = (if nat_lt 15 t then t else t + 10) % 16; carry = nat_lt 15 t }

-- the sum of the lowest n digits of a and m, with its carry, digit by digit from the lowest
abbrev pub digits : Direction → ℕ → ℕ → ℕ → Bool → Digits
digits way zero a m carry = record { value = 0; carry = carry }
digits way (suc n) a m carry =
    let low = corrected way (a % 16 + m % 16 + bit_of carry) in
    let high = digits way n (a / 16) (m / 16) low.carry in
    record { value = low.value + 16 * high.value; carry = high.carry }

-- The sum in decimal, of one digit above n lower ones. The sign of the top digit's sum before its
-- correction counts for the overflow.
unfoldable pub decimal_sum : Direction → ℕ → ℕ → ℕ → Bool → Sum
decimal_sum way n a m carry =
    let low = digits way n a m carry in
    let top_a = a / 16 ^ n % 16 in
    let top_m = m / 16 ^ n % 16 in
    let t = top_a + top_m + bit_of low.carry in
    let top = corrected way t in
    record { value = low.value + 16 ^ n * top.value; carry = top.carry; overflow = overflow 16 top_a top_m t }

-- the sum of A and a number at its width, in the way that the decimal flag gives
unfoldable pub sum_of : Direction → Regs → ℕ → Sum
sum_of way r m =
    if flag r.p DECIMAL
    then decimal_sum way (if memory_size r == 256 then 1 else 3) (accumulator r) m (flag r.p CARRY)
    else binary_sum (memory_size r) (accumulator r) m (bit_of (flag r.p CARRY))

-- a sum is put into A, and sets N, Z, C and V
unfoldable pub take_sum : Regs → Sum → Regs
take_sum r s =
    let loaded = load_a r s.value in
    record loaded { p = put (put loaded.p CARRY s.carry) OVERFLOW s.overflow }

-- ADC: A plus the operand plus the carry
unfoldable pub add : Regs → ℕ → Regs
add r word = take_sum r (sum_of Addition r (word % memory_size r))

-- SBC: A plus the complement of the operand plus the carry
unfoldable pub subtract : Regs → ℕ → Regs
subtract r word = take_sum r (sum_of Subtraction r (memory_size r - 1 - word % memory_size r))

-- CMP, CPX, CPY: N and Z are those of the difference, and C is set where it is not below 0
unfoldable pub compare : ℕ → ℕ → Regs → ℕ → Regs
compare size value r word =
    let m = word % size in
    record r { p = put (with_nz size ((value % size + size - m) % size) r.p) CARRY (nat_le m (value % size)) }

-- BIT: Z is that of A and the operand; N and V are the operand's top bits, but not for an immediate one
unfoldable pub test_bits : Bool → Regs → ℕ → Regs
test_bits is_immediate r word =
    let size = memory_size r in
    let m = word % size in
    let p = put r.p ZERO (bit_and (accumulator r) m == 0) in
    record r { p = if is_immediate then p else put (put p NEGATIVE (top_bit size m == 1)) OVERFLOW (next_bit size m == 1) }
