use Rattle.std.proofs.Common.{◌≡◌, ℕ, ◌+◌, ◌-◌, ◌*◌, ◌/◌, ◌%◌, ◌<◌, ◌==◌, Bool, true, false, nat_le, if◌then◌else◌, refl, arith, ◌∙◌}
use Rattle.std.proofs.lemmas.Bool.Decides.{nat_tests}
use Rattle.status_bits.specs.StatusBits.{flag}
use Rattle.cpu_tables.specs.declared.flags.TheConstants.{CARRY, DECIMAL, MEMORY_8}
use Rattle.cpu_tables.specs.declared.mode.Mode.{Mode}
use Rattle.cpu_tables.specs.declared.mode.Mode.TheVariants.{Implied}
use Rattle.cpu_tables.specs.declared.operation.Op.TheVariants.{Adc, Bcs, Beq, Clc, Cmp, Sbc, Sec}
use Rattle.cpu_tables.specs.declared.regs.Regs.{Regs}
use Rattle.cpu_tables.specs.Status.{memory_size}
use Rattle.cpu_alu.specs.Flow.{taken}
use Rattle.cpu_alu.specs.Registers.{with_flag}
use Rattle.cpu_alu.specs.Results.{registers_after}
use Rattle.cpu_alu.specs.Sums.{add, subtract, compare, take_sum, sum_of, binary_sum}
use Rattle.cpu_alu.specs.Width.{accumulator, put_a, load_a, with_nz}
use Rattle.processor_laws.proofs.StatusLemmas.{put_1, keep_8_1, keep_32_1, zero_of_put, decimal_after_sum, width_after_sum}

-- COMPARISONS

narrow_difference : (a m : ℕ) → a < 256 → m < 256 → ((a + 256 - m) % 256 == 0) ≡ (a == m)
narrow_difference a m ha hm = grind (arith, nat_tests)

wide_difference : (a m : ℕ) → a < 65536 → m < 65536 → ((a + 65536 - m) % 65536 == 0) ≡ (a == m)
wide_difference a m ha hm = grind (arith, nat_tests)

difference_is_zero : (b : Bool) (a m : ℕ) → let w : ℕ = (if b then 256 else 65536) in ((a % w + w - m % w) % w == 0) ≡ (a % w == m % w)
difference_is_zero true a m = narrow_difference (a % 256) (m % 256) (omega arith) (omega arith)
difference_is_zero false a m = wide_difference (a % 65536) (m % 65536) (omega arith) (omega arith)

pub carry_after_cmp : (mode : Mode) (r : Regs) (word : ℕ) → taken Bcs (registers_after Cmp mode r word).p ≡ nat_le (word % memory_size r) (accumulator r)
unfolding registers_after compare taken
carry_after_cmp mode r word = put_1 _ _

pub zero_after_cmp : (mode : Mode) (r : Regs) (word : ℕ) → taken Beq (registers_after Cmp mode r word).p ≡ (accumulator r == word % memory_size r)
unfolding registers_after compare taken with_nz
zero_after_cmp mode r word = zero_of_put _ _ _ _ ∙ difference_is_zero (flag r.p MEMORY_8) r.a word

-- SUMS IN BINARY

add_narrow : (r : Regs) (word : ℕ) → flag r.p DECIMAL ≡ false → flag r.p MEMORY_8 ≡ true → flag r.p CARRY ≡ false → (add r word).a ≡ r.a / 256 * 256 + (r.a % 256 + word % 256 + 0) % 256 % 256
unfolding add take_sum load_a put_a sum_of binary_sum
add_narrow r word d n c = rw (d, n, c) refl

add_wide : (r : Regs) (word : ℕ) → flag r.p DECIMAL ≡ false → flag r.p MEMORY_8 ≡ false → flag r.p CARRY ≡ false → (add r word).a ≡ r.a / 65536 * 65536 + (r.a % 65536 + word % 65536 + 0) % 65536 % 65536
unfolding add take_sum load_a put_a sum_of binary_sum
add_wide r word d n c = rw (d, n, c) refl

subtract_narrow : (r : Regs) (word : ℕ) → flag r.p DECIMAL ≡ false → flag r.p MEMORY_8 ≡ true → flag r.p CARRY ≡ true → (subtract r word).a ≡ r.a / 256 * 256 + (r.a % 256 + (255 - word % 256) + 1) % 256 % 256
unfolding subtract take_sum load_a put_a sum_of binary_sum
subtract_narrow r word d n c = rw (d, n, c) refl

subtract_wide : (r : Regs) (word : ℕ) → flag r.p DECIMAL ≡ false → flag r.p MEMORY_8 ≡ false → flag r.p CARRY ≡ true → (subtract r word).a ≡ r.a / 65536 * 65536 + (r.a % 65536 + (65535 - word % 65536) + 1) % 65536 % 65536
unfolding subtract take_sum load_a put_a sum_of binary_sum
subtract_wide r word d n c = rw (d, n, c) refl

decimal_after_add : (r : Regs) (word : ℕ) → flag (add r word).p DECIMAL ≡ flag r.p DECIMAL
unfolding add take_sum load_a with_nz
decimal_after_add r word = decimal_after_sum _ _ _ _ _

width_after_add : (r : Regs) (word : ℕ) → flag (add r word).p MEMORY_8 ≡ flag r.p MEMORY_8
unfolding add take_sum load_a with_nz
width_after_add r word = width_after_sum _ _ _ _ _

-- the registers before the subtraction
prepared : Regs → ℕ → Regs
prepared r word = with_flag (add (with_flag r CARRY false) word) CARRY true

decimal_prepared : (r : Regs) (word : ℕ) → flag (prepared r word).p DECIMAL ≡ flag r.p DECIMAL
unfolding prepared
decimal_prepared r word = keep_8_1 _ true ∙ decimal_after_add (with_flag r CARRY false) word ∙ keep_8_1 r.p false

width_prepared : (r : Regs) (word : ℕ) → flag (prepared r word).p MEMORY_8 ≡ flag r.p MEMORY_8
unfolding prepared
width_prepared r word = keep_32_1 _ true ∙ width_after_add (with_flag r CARRY false) word ∙ keep_32_1 r.p false

carry_prepared : (r : Regs) (word : ℕ) → flag (prepared r word).p CARRY ≡ true
unfolding prepared
carry_prepared r word = put_1 _ true

a_prepared : (r : Regs) (word : ℕ) → (prepared r word).a ≡ (add (with_flag r CARRY false) word).a
unfolding prepared
a_prepared r word = refl

taken_back_narrow : (a m : ℕ) → let b = a / 256 * 256 + (a % 256 + m % 256 + 0) % 256 % 256 in b / 256 * 256 + (b % 256 + (255 - m % 256) + 1) % 256 % 256 ≡ a
taken_back_narrow a m = omega arith

taken_back_wide : (a m : ℕ) → let b = a / 65536 * 65536 + (a % 65536 + m % 65536 + 0) % 65536 % 65536 in b / 65536 * 65536 + (b % 65536 + (65535 - m % 65536) + 1) % 65536 % 65536 ≡ a
taken_back_wide a m = omega arith

taken_back : (b : Bool) (r : Regs) (word : ℕ) → flag r.p DECIMAL ≡ false → flag r.p MEMORY_8 ≡ b → (subtract (prepared r word) word).a ≡ r.a
taken_back true r word d n =
    let sub = subtract_narrow (prepared r word) word (decimal_prepared r word ∙ d) (width_prepared r word ∙ n) (carry_prepared r word) in
    let sum = a_prepared r word ∙ add_narrow (with_flag r CARRY false) word (keep_8_1 r.p false ∙ d) (keep_32_1 r.p false ∙ n) (put_1 r.p false) in
    sub ∙ (rw sum (taken_back_narrow r.a word))
taken_back false r word d n =
    let sub = subtract_wide (prepared r word) word (decimal_prepared r word ∙ d) (width_prepared r word ∙ n) (carry_prepared r word) in
    let sum = a_prepared r word ∙ add_wide (with_flag r CARRY false) word (keep_8_1 r.p false ∙ d) (keep_32_1 r.p false ∙ n) (put_1 r.p false) in
    sub ∙ (rw sum (taken_back_wide r.a word))

pub addition_taken_back : (mode : Mode) (r : Regs) (word : ℕ) → flag r.p DECIMAL ≡ false →
    (registers_after Sbc mode (registers_after Sec Implied (registers_after Adc mode (registers_after Clc Implied r 0) word) 0) word).a ≡ r.a
unfolding registers_after prepared
addition_taken_back mode r word d = taken_back (flag r.p MEMORY_8) r word d refl
