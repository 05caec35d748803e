use Rattle.std.proofs.Common.{◌≡◌, ℕ, ◌+◌, ◌-◌, ◌*◌, ◌/◌, ◌%◌, Bool, true, false, refl, arith, ◌∙◌}
use Rattle.status_bits.specs.StatusBits.{flag, put}

-- a flag that was put is read

pub put_1 : (p : ℕ) (on : Bool) → flag (put p 1 on) 1 ≡ on
put_1 p true = let e : (p - p / 1 % 2 * 1 + 1) / 1 % 2 ≡ 1 = omega arith in rw e refl
put_1 p false = let e : (p - p / 1 % 2 * 1 + 0) / 1 % 2 ≡ 0 = omega arith in rw e refl

pub put_2 : (p : ℕ) (on : Bool) → flag (put p 2 on) 2 ≡ on
put_2 p true = let e : (p - p / 2 % 2 * 2 + 2) / 2 % 2 ≡ 1 = omega arith in rw e refl
put_2 p false = let e : (p - p / 2 % 2 * 2 + 0) / 2 % 2 ≡ 0 = omega arith in rw e refl

-- putting a bit leaves the others: keep_V_W is that of weight V where W is put

pub keep_1_2 : (p : ℕ) (on : Bool) → flag (put p 2 on) 1 ≡ flag p 1
keep_1_2 p true = let e : (p - p / 2 % 2 * 2 + 2) / 1 % 2 ≡ p / 1 % 2 = omega arith in rw e refl
keep_1_2 p false = let e : (p - p / 2 % 2 * 2 + 0) / 1 % 2 ≡ p / 1 % 2 = omega arith in rw e refl

pub keep_1_64 : (p : ℕ) (on : Bool) → flag (put p 64 on) 1 ≡ flag p 1
keep_1_64 p true = let e : (p - p / 64 % 2 * 64 + 64) / 1 % 2 ≡ p / 1 % 2 = omega arith in rw e refl
keep_1_64 p false = let e : (p - p / 64 % 2 * 64 + 0) / 1 % 2 ≡ p / 1 % 2 = omega arith in rw e refl

pub keep_1_128 : (p : ℕ) (on : Bool) → flag (put p 128 on) 1 ≡ flag p 1
keep_1_128 p true = let e : (p - p / 128 % 2 * 128 + 128) / 1 % 2 ≡ p / 1 % 2 = omega arith in rw e refl
keep_1_128 p false = let e : (p - p / 128 % 2 * 128 + 0) / 1 % 2 ≡ p / 1 % 2 = omega arith in rw e refl

pub keep_2_1 : (p : ℕ) (on : Bool) → flag (put p 1 on) 2 ≡ flag p 2
keep_2_1 p true = let e : (p - p / 1 % 2 * 1 + 1) / 2 % 2 ≡ p / 2 % 2 = omega arith in rw e refl
keep_2_1 p false = let e : (p - p / 1 % 2 * 1 + 0) / 2 % 2 ≡ p / 2 % 2 = omega arith in rw e refl

pub keep_2_64 : (p : ℕ) (on : Bool) → flag (put p 64 on) 2 ≡ flag p 2
keep_2_64 p true = let e : (p - p / 64 % 2 * 64 + 64) / 2 % 2 ≡ p / 2 % 2 = omega arith in rw e refl
keep_2_64 p false = let e : (p - p / 64 % 2 * 64 + 0) / 2 % 2 ≡ p / 2 % 2 = omega arith in rw e refl

pub keep_2_128 : (p : ℕ) (on : Bool) → flag (put p 128 on) 2 ≡ flag p 2
keep_2_128 p true = let e : (p - p / 128 % 2 * 128 + 128) / 2 % 2 ≡ p / 2 % 2 = omega arith in rw e refl
keep_2_128 p false = let e : (p - p / 128 % 2 * 128 + 0) / 2 % 2 ≡ p / 2 % 2 = omega arith in rw e refl

pub keep_8_1 : (p : ℕ) (on : Bool) → flag (put p 1 on) 8 ≡ flag p 8
keep_8_1 p true = let e : (p - p / 1 % 2 * 1 + 1) / 8 % 2 ≡ p / 8 % 2 = omega arith in rw e refl
keep_8_1 p false = let e : (p - p / 1 % 2 * 1 + 0) / 8 % 2 ≡ p / 8 % 2 = omega arith in rw e refl

pub keep_8_2 : (p : ℕ) (on : Bool) → flag (put p 2 on) 8 ≡ flag p 8
keep_8_2 p true = let e : (p - p / 2 % 2 * 2 + 2) / 8 % 2 ≡ p / 8 % 2 = omega arith in rw e refl
keep_8_2 p false = let e : (p - p / 2 % 2 * 2 + 0) / 8 % 2 ≡ p / 8 % 2 = omega arith in rw e refl

pub keep_8_64 : (p : ℕ) (on : Bool) → flag (put p 64 on) 8 ≡ flag p 8
keep_8_64 p true = let e : (p - p / 64 % 2 * 64 + 64) / 8 % 2 ≡ p / 8 % 2 = omega arith in rw e refl
keep_8_64 p false = let e : (p - p / 64 % 2 * 64 + 0) / 8 % 2 ≡ p / 8 % 2 = omega arith in rw e refl

pub keep_8_128 : (p : ℕ) (on : Bool) → flag (put p 128 on) 8 ≡ flag p 8
keep_8_128 p true = let e : (p - p / 128 % 2 * 128 + 128) / 8 % 2 ≡ p / 8 % 2 = omega arith in rw e refl
keep_8_128 p false = let e : (p - p / 128 % 2 * 128 + 0) / 8 % 2 ≡ p / 8 % 2 = omega arith in rw e refl

pub keep_32_1 : (p : ℕ) (on : Bool) → flag (put p 1 on) 32 ≡ flag p 32
keep_32_1 p true = let e : (p - p / 1 % 2 * 1 + 1) / 32 % 2 ≡ p / 32 % 2 = omega arith in rw e refl
keep_32_1 p false = let e : (p - p / 1 % 2 * 1 + 0) / 32 % 2 ≡ p / 32 % 2 = omega arith in rw e refl

pub keep_32_2 : (p : ℕ) (on : Bool) → flag (put p 2 on) 32 ≡ flag p 32
keep_32_2 p true = let e : (p - p / 2 % 2 * 2 + 2) / 32 % 2 ≡ p / 32 % 2 = omega arith in rw e refl
keep_32_2 p false = let e : (p - p / 2 % 2 * 2 + 0) / 32 % 2 ≡ p / 32 % 2 = omega arith in rw e refl

pub keep_32_64 : (p : ℕ) (on : Bool) → flag (put p 64 on) 32 ≡ flag p 32
keep_32_64 p true = let e : (p - p / 64 % 2 * 64 + 64) / 32 % 2 ≡ p / 32 % 2 = omega arith in rw e refl
keep_32_64 p false = let e : (p - p / 64 % 2 * 64 + 0) / 32 % 2 ≡ p / 32 % 2 = omega arith in rw e refl

pub keep_32_128 : (p : ℕ) (on : Bool) → flag (put p 128 on) 32 ≡ flag p 32
keep_32_128 p true = let e : (p - p / 128 % 2 * 128 + 128) / 32 % 2 ≡ p / 32 % 2 = omega arith in rw e refl
keep_32_128 p false = let e : (p - p / 128 % 2 * 128 + 0) / 32 % 2 ≡ p / 32 % 2 = omega arith in rw e refl

-- C of a status byte in which C and then V were put
pub carry_of_put : (p : ℕ) (c v : Bool) → flag (put (put p 1 c) 64 v) 1 ≡ c
carry_of_put p c v = keep_1_64 (put p 1 c) v ∙ put_1 p c

-- Z of a status byte in which Z, N and then C were put
pub zero_of_put : (p : ℕ) (z n c : Bool) → flag (put (put (put p 2 z) 128 n) 1 c) 2 ≡ z
zero_of_put p z n c = keep_2_1 (put (put p 2 z) 128 n) c ∙ keep_2_128 (put p 2 z) n ∙ put_2 p z

-- a sum leaves the decimal flag: Z, N, C and V are put
pub decimal_after_sum : (p : ℕ) (z n c v : Bool) → flag (put (put (put (put p 2 z) 128 n) 1 c) 64 v) 8 ≡ flag p 8
decimal_after_sum p z n c v =
    keep_8_64 (put (put (put p 2 z) 128 n) 1 c) v ∙ keep_8_1 (put (put p 2 z) 128 n) c ∙ keep_8_128 (put p 2 z) n ∙ keep_8_2 p z

-- a sum leaves the width flag: Z, N, C and V are put
pub width_after_sum : (p : ℕ) (z n c v : Bool) → flag (put (put (put (put p 2 z) 128 n) 1 c) 64 v) 32 ≡ flag p 32
width_after_sum p z n c v =
    keep_32_64 (put (put (put p 2 z) 128 n) 1 c) v ∙ keep_32_1 (put (put p 2 z) 128 n) c ∙ keep_32_128 (put p 2 z) n ∙ keep_32_2 p z

-- V of a status byte in which it was put last
pub put_64 : (p : ℕ) (on : Bool) → flag (put p 64 on) 64 ≡ on
put_64 p true = let e : (p - p / 64 % 2 * 64 + 64) / 64 % 2 ≡ 1 = omega arith in rw e refl
put_64 p false = let e : (p - p / 64 % 2 * 64 + 0) / 64 % 2 ≡ 0 = omega arith in rw e refl
