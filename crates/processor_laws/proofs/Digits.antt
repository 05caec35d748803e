use Rattle.std.proofs.Common.{◌≡◌, ℕ, zero, suc, ◌+◌, ◌-◌, ◌*◌, ◌/◌, ◌%◌, ◌^◌, ◌<◌, Bool, true, false, refl, arith}
use Rattle.std.proofs.Math.Nat.{pow-succ'}
use Rattle.std.proofs.lemmas.Bool.Decides.{nat_tests}
use Rattle.cpu_alu.specs.declared.sums.Digits.{Digits}
use Rattle.cpu_alu.specs.declared.sums.Direction.TheVariants.{Addition, Subtraction}
use Rattle.cpu_alu.specs.Sums.{corrected, digits}
use Rattle.cpu_alu.specs.Width.{bit_of}
use Rattle.processor_laws.specs.Numbers.{number, IsDecimal}

-- a corrected digit of an addition is the digit of the sum, and its carry the next one
pub digit_of_sum : (t : ℕ) → t < 20 → ((corrected Addition t).value < 10) × ((corrected Addition t).value + 10 * bit_of (corrected Addition t).carry ≡ t)
unfolding corrected
digit_of_sum t h = (grind (arith, nat_tests), grind (arith, nat_tests))

-- a corrected digit of a subtraction is the digit of the difference
pub digit_of_difference : (x y c : ℕ) → x < 10 → y < 10 → c < 2 → let d = corrected Subtraction (x + (15 - y) + c) in (d.value < 10) × (d.value + y + 1 + 10 * bit_of d.carry ≡ x + c + 10)
unfolding corrected
digit_of_difference x y c hx hy hc = (grind (arith, nat_tests), grind (arith, nat_tests))

-- a digit below sixteen and the digits above it
lowest_digit : (d v : ℕ) → d < 16 → (d + 16 * v) % 16 ≡ d
lowest_digit d v h = omega arith

digits_above : (d v : ℕ) → d < 16 → (d + 16 * v) / 16 ≡ v
digits_above d v h = omega arith

number_of_joined : (n d v : ℕ) → d < 16 → number (suc n) (d + 16 * v) ≡ d + 10 * number n v
number_of_joined n d v h = rw (lowest_digit d v h, digits_above d v h) refl

joined_are_decimal : (n d v : ℕ) → d < 10 → IsDecimal n v → IsDecimal (suc n) (d + 16 * v)
joined_are_decimal n d v h r = (
  let e : (d + 16 * v) % 16 ≡ d = omega arith in omega arith,
  let e : (d + 16 * v) / 16 ≡ v = omega arith in rw e r,
)

pub small_bit : (b : Bool) → bit_of b < 2
small_bit true = omega arith
small_bit false = omega arith

-- the lowest digits add up, and so do those above with the carry: then all do
sum_with_lowest : (p lv lb hn hb an mn x y c : ℕ) → lv + 10 * lb ≡ x + y + c → hn + p * hb ≡ an + mn + lb → (lv + 10 * hn) + 10 * p * hb ≡ (x + 10 * an) + (y + 10 * mn) + c
sum_with_lowest p lv lb hn hb an mn x y c low high = omega arith

-- the digits of an addition are those of the sum, with the carry as the next digit
pub record IsSum (n a m : ℕ) (carry : Bool) (r : Digits) : Type 0 where
  pub valid : IsDecimal n r.value
  pub sum : number n r.value + 10 ^ n * bit_of r.carry ≡ number n a + number n m + bit_of carry

pub digits_of_sum : (n a m : ℕ) (carry : Bool) → IsDecimal n a → IsDecimal n m → IsSum n a m carry (digits Addition n a m carry)
digits_of_sum zero a m carry ha hm = record { valid = tt; sum = omega arith }
digits_of_sum (suc n) a m carry ha hm =
    let c = small_bit carry in
    let h : a % 16 + m % 16 + bit_of carry < 20 = omega arith in
    let low = corrected Addition (a % 16 + m % 16 + bit_of carry) in
    let d = digit_of_sum (a % 16 + m % 16 + bit_of carry) h in
    let high = digits_of_sum n (a / 16) (m / 16) low.carry ha.1 hm.1 in
    record {
      valid = joined_are_decimal n low.value (digits Addition n (a / 16) (m / 16) low.carry).value d.0 high.valid;
      sum = rw (number_of_joined n low.value (digits Addition n (a / 16) (m / 16) low.carry).value (omega (arith, d.0)), pow-succ' 10 n)
          (sum_with_lowest (10 ^ n) low.value (bit_of low.carry) _ _ (number n (a / 16)) (number n (m / 16)) (a % 16) (m % 16) (bit_of carry) d.1 high.sum);
    }

-- the digits of a subtraction are those of the difference: a clear carry is a borrow
pub record IsDifference (n a m : ℕ) (carry : Bool) (r : Digits) : Type 0 where
  pub valid : IsDecimal n r.value
  pub difference : number n r.value + number n m + 1 + 10 ^ n * bit_of r.carry ≡ number n a + bit_of carry + 10 ^ n

-- a number whose digits are those of m taken from 15
unfoldable pub IsComplement : ℕ → ℕ → ℕ → Type 0
IsComplement zero k m = Unit {0}
IsComplement (suc n) k m = (k % 16 ≡ 15 - m % 16) × IsComplement n (k / 16) (m / 16)

difference_with_lowest : (p lv lb hn hb an mn x y c : ℕ) → lv + y + 1 + 10 * lb ≡ x + c + 10 → hn + mn + 1 + p * hb ≡ an + lb + p → (lv + 10 * hn) + (y + 10 * mn) + 1 + 10 * p * hb ≡ (x + 10 * an) + c + 10 * p
difference_with_lowest p lv lb hn hb an mn x y c low high = omega arith

pub digits_of_difference : (n a m k : ℕ) (carry : Bool) → IsComplement n k m → IsDecimal n a → IsDecimal n m → IsDifference n a m carry (digits Subtraction n a k carry)
unfolding IsComplement
digits_of_difference zero a m k carry hk ha hm = record { valid = tt; difference = omega arith }
digits_of_difference (suc n) a m k carry hk ha hm =
    let e : k % 16 ≡ 15 - m % 16 = hk.0 in
    let low = corrected Subtraction (a % 16 + k % 16 + bit_of carry) in
    let d : (low.value < 10) × (low.value + m % 16 + 1 + 10 * bit_of low.carry ≡ a % 16 + bit_of carry + 10) =
    rw e (digit_of_difference (a % 16) (m % 16) (bit_of carry) ha.0 hm.0 (small_bit carry)) in
    let high = digits_of_difference n (a / 16) (m / 16) (k / 16) low.carry hk.1 ha.1 hm.1 in
    record {
      valid = joined_are_decimal n low.value (digits Subtraction n (a / 16) (k / 16) low.carry).value d.0 high.valid;
      difference = rw (number_of_joined n low.value (digits Subtraction n (a / 16) (k / 16) low.carry).value (omega (arith, d.0)), pow-succ' 10 n)
          (difference_with_lowest (10 ^ n) low.value (bit_of low.carry) _ _ (number n (a / 16)) (number n (m / 16)) (a % 16) (m % 16) (bit_of carry) d.1 high.difference);
    }
