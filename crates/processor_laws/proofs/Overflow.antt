use Rattle.std.proofs.Common.{◌≡◌, ℕ, ◌+◌, ◌-◌, ◌*◌, ◌/◌, ◌%◌, Bool, true, false, refl, arith, ◌∙◌}
use Rattle.status_bits.specs.StatusBits.{flag, put}
use Rattle.spc_alu.specs.Status.{with_nz}

-- V that was put is read
put_64 : (p : ℕ) (on : Bool) → flag (put p 64 on) 64 ≡ on
put_64 p true = let e : (p - p / 64 % 2 * 64 + 64) / 64 % 2 ≡ 1 = omega arith in rw e refl
put_64 p false = let e : (p - p / 64 % 2 * 64 + 0) / 64 % 2 ≡ 0 = omega arith in rw e refl

-- putting Z and N leaves V

keep_64_2 : (p : ℕ) (on : Bool) → flag (put p 2 on) 64 ≡ flag p 64
keep_64_2 p true = let e : (p - p / 2 % 2 * 2 + 2) / 64 % 2 ≡ p / 64 % 2 = omega arith in rw e refl
keep_64_2 p false = let e : (p - p / 2 % 2 * 2 + 0) / 64 % 2 ≡ p / 64 % 2 = omega arith in rw e refl

keep_64_128 : (p : ℕ) (on : Bool) → flag (put p 128 on) 64 ≡ flag p 64
keep_64_128 p true = let e : (p - p / 128 % 2 * 128 + 128) / 64 % 2 ≡ p / 64 % 2 = omega arith in rw e refl
keep_64_128 p false = let e : (p - p / 128 % 2 * 128 + 0) / 64 % 2 ≡ p / 64 % 2 = omega arith in rw e refl

-- V of a status byte in which V, and then Z and N of a byte, were put
pub overflow_of_put : (v p : ℕ) (on : Bool) → flag (with_nz v (put p 64 on)) 64 ≡ on
unfolding with_nz
overflow_of_put v p on = keep_64_128 _ _ ∙ keep_64_2 _ _ ∙ put_64 p on
