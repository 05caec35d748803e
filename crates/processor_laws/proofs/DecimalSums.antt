use Rattle.std.proofs.Common.{◌≡◌, ℕ, ◌+◌, ◌-◌, ◌*◌, ◌/◌, ◌%◌, ◌^◌, ◌<◌, Bool, true, false, refl, arith, if◌then◌else◌}
use Rattle.status_bits.specs.StatusBits.{flag}
use Rattle.cpu_tables.specs.declared.regs.Regs.{Regs}
use Rattle.cpu_tables.specs.declared.mode.Mode.{Mode}
use Rattle.cpu_tables.specs.declared.operation.Op.TheVariants.{Adc, Sbc}
use Rattle.cpu_tables.specs.declared.flags.TheConstants.{CARRY, DECIMAL, MEMORY_8}
use Rattle.cpu_tables.specs.Status.{memory_size}
use Rattle.cpu_alu.specs.declared.sums.Direction.{Direction}
use Rattle.cpu_alu.specs.declared.sums.Direction.TheVariants.{Addition, Subtraction}
use Rattle.cpu_alu.specs.Sums.{digits, decimal_sum, sum_of, take_sum, add, subtract}
use Rattle.cpu_alu.specs.Results.{registers_after}
use Rattle.cpu_alu.specs.Width.{bit_of, put_a, load_a}
use Rattle.processor_laws.specs.Numbers.{number, IsDecimal, digit_count}
use Rattle.processor_laws.proofs.Digits.{IsComplement, digits_of_sum, digits_of_difference}
use Rattle.processor_laws.proofs.StatusLemmas.{carry_of_put}

-- a sum of one or three lower digits and a top one is that of two or four digits
pub two_digits : (way : Direction) (a m : ℕ) (c : Bool) → (decimal_sum way 1 a m c).value ≡ (digits way 2 a m c).value
unfolding decimal_sum
two_digits way a m c = omega arith

pub two_digits_carry : (way : Direction) (a m : ℕ) (c : Bool) → (decimal_sum way 1 a m c).carry ≡ (digits way 2 a m c).carry
unfolding decimal_sum
two_digits_carry way a m c = refl

pub four_digits : (way : Direction) (a m : ℕ) (c : Bool) → (decimal_sum way 3 a m c).value ≡ (digits way 4 a m c).value
unfolding decimal_sum
four_digits way a m c =
    let ea : a / 4096 ≡ a / 16 / 16 / 16 = omega arith in
    let em : m / 4096 ≡ m / 16 / 16 / 16 = omega arith in
    rw (ea, em) (omega arith)

pub four_digits_carry : (way : Direction) (a m : ℕ) (c : Bool) → (decimal_sum way 3 a m c).carry ≡ (digits way 4 a m c).carry
unfolding decimal_sum
four_digits_carry way a m c =
    let ea : a / 4096 ≡ a / 16 / 16 / 16 = omega arith in
    let em : m / 4096 ≡ m / 16 / 16 / 16 = omega arith in
    rw (ea, em) refl

-- the digits of what A becomes are those of the sum
pub two_of_put : (h v : ℕ) → number 2 (h / 256 * 256 + v % 256) ≡ number 2 v
two_of_put h v = omega arith

pub four_of_put : (h v : ℕ) → number 4 (h / 65536 * 65536 + v % 65536) ≡ number 4 v
four_of_put h v = omega arith

pub two_of_low : (v : ℕ) → number 2 (v % 256) ≡ number 2 v
two_of_low v = omega arith

pub four_of_low : (v : ℕ) → number 4 (v % 65536) ≡ number 4 v
four_of_low v = omega arith

pub valid_two_of_put : (h v : ℕ) → IsDecimal 2 v → IsDecimal 2 (h / 256 * 256 + v % 256)
valid_two_of_put h v d = let l = d.0 in let t = d.1.0 in (omega arith, (omega arith, tt))

pub valid_four_of_put : (h v : ℕ) → IsDecimal 4 v → IsDecimal 4 (h / 65536 * 65536 + v % 65536)
valid_four_of_put h v d =
    let p = d.0 in let q = d.1.0 in let s = d.1.1.0 in let t = d.1.1.1.0 in
    (omega arith, (omega arith, (omega arith, (omega arith, tt))))

pub valid_two_of_low : (v : ℕ) → IsDecimal 2 v → IsDecimal 2 (v % 256)
valid_two_of_low v d = let l = d.0 in let t = d.1.0 in (omega arith, (omega arith, tt))

pub valid_four_of_low : (v : ℕ) → IsDecimal 4 v → IsDecimal 4 (v % 65536)
valid_four_of_low v d =
    let p = d.0 in let q = d.1.0 in let s = d.1.1.0 in let t = d.1.1.1.0 in
    (omega arith, (omega arith, (omega arith, (omega arith, tt))))

-- in decimal mode the sum is that of two digits at 8 bits, and of four at 16

pub sum_narrow : (way : Direction) (r : Regs) (m : ℕ) → flag r.p DECIMAL ≡ true → flag r.p MEMORY_8 ≡ true → sum_of way r m ≡ decimal_sum way 1 (r.a % 256) m (flag r.p CARRY)
unfolding sum_of
sum_narrow way r m d n = rw (d, n) refl

pub sum_wide : (way : Direction) (r : Regs) (m : ℕ) → flag r.p DECIMAL ≡ true → flag r.p MEMORY_8 ≡ false → sum_of way r m ≡ decimal_sum way 3 (r.a % 65536) m (flag r.p CARRY)
unfolding sum_of
sum_wide way r m d n = rw (d, n) refl

-- what ADC and SBC make of A and of C

pub a_after_adc : (mode : Mode) (r : Regs) (word : ℕ) → (registers_after Adc mode r word).a ≡ put_a r (sum_of Addition r (word % memory_size r)).value
unfolding registers_after add take_sum load_a
a_after_adc mode r word = refl

pub carry_after_adc : (mode : Mode) (r : Regs) (word : ℕ) → flag (registers_after Adc mode r word).p CARRY ≡ (sum_of Addition r (word % memory_size r)).carry
unfolding registers_after add take_sum load_a
carry_after_adc mode r word = carry_of_put _ _ _

pub a_after_sbc : (mode : Mode) (r : Regs) (word : ℕ) → (registers_after Sbc mode r word).a ≡ put_a r (sum_of Subtraction r (memory_size r - 1 - word % memory_size r)).value
unfolding registers_after subtract take_sum load_a
a_after_sbc mode r word = refl

pub carry_after_sbc : (mode : Mode) (r : Regs) (word : ℕ) → flag (registers_after Sbc mode r word).p CARRY ≡ (sum_of Subtraction r (memory_size r - 1 - word % memory_size r)).carry
unfolding registers_after subtract take_sum load_a
carry_after_sbc mode r word = carry_of_put _ _ _

-- A after a decimal sum at a width, and its carry, for n digits
pub record IsDecimalSum (n a m : ℕ) (carry : Bool) (a' : ℕ) (carry' : Bool) : Type 0 where
  pub valid : IsDecimal n a'
  pub sum : number n a' + 10 ^ n * bit_of carry' ≡ number n a + number n m + bit_of carry

pub record IsDecimalDifference (n a m : ℕ) (carry : Bool) (a' : ℕ) (carry' : Bool) : Type 0 where
  pub valid : IsDecimal n a'
  pub difference : number n a' + number n m + 1 + 10 ^ n * bit_of carry' ≡ number n a + bit_of carry + 10 ^ n

two_digit_sum : (h a m : ℕ) (c : Bool) → IsDecimal 2 a → IsDecimal 2 m → let s = decimal_sum Addition 1 (a % 256) (m % 256) c in IsDecimalSum 2 a m c (h / 256 * 256 + s.value % 256) s.carry
two_digit_sum h a m c ha hm =
    let d = digits_of_sum 2 (a % 256) (m % 256) c (valid_two_of_low a ha) (valid_two_of_low m hm) in
    rw (two_digits Addition (a % 256) (m % 256) c, two_digits_carry Addition (a % 256) (m % 256) c)
    (record {
      valid = valid_two_of_put h _ d.valid;
      sum = rw (two_of_put h (digits Addition 2 (a % 256) (m % 256) c).value) (rw (two_of_low a, two_of_low m) at d.sum);
    })

four_digit_sum : (h a m : ℕ) (c : Bool) → IsDecimal 4 a → IsDecimal 4 m → let s = decimal_sum Addition 3 (a % 65536) (m % 65536) c in IsDecimalSum 4 a m c (h / 65536 * 65536 + s.value % 65536) s.carry
four_digit_sum h a m c ha hm =
    let d = digits_of_sum 4 (a % 65536) (m % 65536) c (valid_four_of_low a ha) (valid_four_of_low m hm) in
    rw (four_digits Addition (a % 65536) (m % 65536) c, four_digits_carry Addition (a % 65536) (m % 65536) c)
    (record {
      valid = valid_four_of_put h _ d.valid;
      sum = rw (four_of_put h (digits Addition 4 (a % 65536) (m % 65536) c).value) (rw (four_of_low a, four_of_low m) at d.sum);
    })

-- the digits of a number taken from all ones are the digits taken from 15
complement_digit : (k m q : ℕ) → k + m ≡ 16 * q + 15 → (k % 16 ≡ 15 - m % 16) × (k / 16 + m / 16 ≡ q)
complement_digit k m q h = (omega arith, omega arith)

two_complement : (m : ℕ) → m < 256 → IsComplement 2 (255 - m) m
unfolding IsComplement
two_complement m h =
    let first = complement_digit (255 - m) m 15 (omega arith) in
    let second = complement_digit ((255 - m) / 16) (m / 16) 0 first.1 in
    (first.0, (second.0, tt))

four_complement : (m : ℕ) → m < 65536 → IsComplement 4 (65535 - m) m
unfolding IsComplement
four_complement m h =
    let first = complement_digit (65535 - m) m 4095 (omega arith) in
    let second = complement_digit ((65535 - m) / 16) (m / 16) 255 first.1 in
    let third = complement_digit ((65535 - m) / 16 / 16) (m / 16 / 16) 15 second.1 in
    let fourth = complement_digit ((65535 - m) / 16 / 16 / 16) (m / 16 / 16 / 16) 0 third.1 in
    (first.0, (second.0, (third.0, (fourth.0, tt))))

two_digit_difference : (h a m : ℕ) (c : Bool) → IsDecimal 2 a → IsDecimal 2 m → let s = decimal_sum Subtraction 1 (a % 256) (255 - m % 256) c in IsDecimalDifference 2 a m c (h / 256 * 256 + s.value % 256) s.carry
two_digit_difference h a m c ha hm =
    let d = digits_of_difference 2 (a % 256) (m % 256) (255 - m % 256) c (two_complement (m % 256) (omega arith)) (valid_two_of_low a ha) (valid_two_of_low m hm) in
    rw (two_digits Subtraction (a % 256) (255 - m % 256) c, two_digits_carry Subtraction (a % 256) (255 - m % 256) c)
    (record {
      valid = valid_two_of_put h _ d.valid;
      difference = rw (two_of_put h (digits Subtraction 2 (a % 256) (255 - m % 256) c).value) (rw (two_of_low a, two_of_low m) at d.difference);
    })

four_digit_difference : (h a m : ℕ) (c : Bool) → IsDecimal 4 a → IsDecimal 4 m → let s = decimal_sum Subtraction 3 (a % 65536) (65535 - m % 65536) c in IsDecimalDifference 4 a m c (h / 65536 * 65536 + s.value % 65536) s.carry
four_digit_difference h a m c ha hm =
    let d = digits_of_difference 4 (a % 65536) (m % 65536) (65535 - m % 65536) c (four_complement (m % 65536) (omega arith)) (valid_four_of_low a ha) (valid_four_of_low m hm) in
    rw (four_digits Subtraction (a % 65536) (65535 - m % 65536) c, four_digits_carry Subtraction (a % 65536) (65535 - m % 65536) c)
    (record {
      valid = valid_four_of_put h _ d.valid;
      difference = rw (four_of_put h (digits Subtraction 4 (a % 65536) (65535 - m % 65536) c).value) (rw (four_of_low a, four_of_low m) at d.difference);
    })

-- the laws at each width

sum_at : (b : Bool) (mode : Mode) (r : Regs) (word : ℕ) → flag r.p DECIMAL ≡ true → flag r.p MEMORY_8 ≡ b → IsDecimal (if b then 2 else 4) r.a → IsDecimal (if b then 2 else 4) word → IsDecimalSum (if b then 2 else 4) r.a word (flag r.p CARRY) (registers_after Adc mode r word).a (flag (registers_after Adc mode r word).p CARRY)
unfolding put_a
sum_at true mode r word d n ha hm =
    rw (a_after_adc mode r word, carry_after_adc mode r word, n, sum_narrow Addition r (word % 256) d n) (two_digit_sum r.a r.a word (flag r.p CARRY) ha hm)
sum_at false mode r word d n ha hm =
    rw (a_after_adc mode r word, carry_after_adc mode r word, n, sum_wide Addition r (word % 65536) d n) (four_digit_sum r.a r.a word (flag r.p CARRY) ha hm)

difference_at : (b : Bool) (mode : Mode) (r : Regs) (word : ℕ) → flag r.p DECIMAL ≡ true → flag r.p MEMORY_8 ≡ b → IsDecimal (if b then 2 else 4) r.a → IsDecimal (if b then 2 else 4) word → IsDecimalDifference (if b then 2 else 4) r.a word (flag r.p CARRY) (registers_after Sbc mode r word).a (flag (registers_after Sbc mode r word).p CARRY)
unfolding put_a
difference_at true mode r word d n ha hm =
    rw (a_after_sbc mode r word, carry_after_sbc mode r word, n, sum_narrow Subtraction r (255 - word % 256) d n) (two_digit_difference r.a r.a word (flag r.p CARRY) ha hm)
difference_at false mode r word d n ha hm =
    rw (a_after_sbc mode r word, carry_after_sbc mode r word, n, sum_wide Subtraction r (65535 - word % 65536) d n) (four_digit_difference r.a r.a word (flag r.p CARRY) ha hm)

-- ADC and SBC of valid digits in decimal mode

pub decimal_sum_after : (mode : Mode) (r : Regs) (word : ℕ) → flag r.p DECIMAL ≡ true → IsDecimal (digit_count r) r.a → IsDecimal (digit_count r) word → IsDecimalSum (digit_count r) r.a word (flag r.p CARRY) (registers_after Adc mode r word).a (flag (registers_after Adc mode r word).p CARRY)
decimal_sum_after mode r word d ha hm = sum_at (flag r.p MEMORY_8) mode r word d refl ha hm

pub decimal_difference_after : (mode : Mode) (r : Regs) (word : ℕ) → flag r.p DECIMAL ≡ true → IsDecimal (digit_count r) r.a → IsDecimal (digit_count r) word → IsDecimalDifference (digit_count r) r.a word (flag r.p CARRY) (registers_after Sbc mode r word).a (flag (registers_after Sbc mode r word).p CARRY)
decimal_difference_after mode r word d ha hm = difference_at (flag r.p MEMORY_8) mode r word d refl ha hm
