use Rattle.std.proofs.Common.{◌≡◌, ℕ, ℤ, pos, neg_ℤ, ◌+ℤ◌, ◌-ℤ◌, ◌+◌, ◌-◌, ◌%◌, ◌<◌, Bool, true, false, refl, arith, sym, ◌∙◌}
use Rattle.std.proofs.lemmas.Bool.Decides.{nat_tests}
use Rattle.std.proofs.lemmas.Int.{ints}
use Rattle.status_bits.specs.StatusBits.{flag}
use Rattle.cpu_tables.specs.declared.flags.TheConstants.{CARRY, DECIMAL, MEMORY_8, OVERFLOW}
use Rattle.cpu_tables.specs.declared.mode.Mode.{Mode}
use Rattle.cpu_tables.specs.declared.operation.Op.TheVariants.{Adc, Sbc}
use Rattle.cpu_tables.specs.declared.regs.Regs.{Regs}
use Rattle.cpu_tables.specs.Status.{memory_size}
use Rattle.cpu_alu.specs.Results.{registers_after}
use Rattle.cpu_alu.specs.Sums.{overflow, add, subtract, take_sum, sum_of, binary_sum}
use Rattle.cpu_alu.specs.Width.{bit_of, put_a, load_a}
use Rattle.processor_laws.proofs.Digits.{small_bit}
use Rattle.processor_laws.proofs.StatusLemmas.{put_64}
use Rattle.processor_laws.specs.Signed.{signed}

-- adding a complement and a carry is subtracting, less one where the carry is 0
sum_to_difference : (x a s m : ℤ) (c : ℕ) → c < 2 → s ≡ neg_ℤ (m +ℤ pos 1) → x ≡ a +ℤ s +ℤ pos c → x ≡ a -ℤ m -ℤ pos (1 - c)
sum_to_difference x a s m c h e q = omega (arith, ints)

difference_to_sum : (x a s m : ℤ) (c : ℕ) → c < 2 → s ≡ neg_ℤ (m +ℤ pos 1) → x ≡ a -ℤ m -ℤ pos (1 - c) → x ≡ a +ℤ s +ℤ pos c
difference_to_sum x a s m c h e q = omega (arith, ints)

-- at 8 bits: where the overflow is clear the signed sum is right, and where it is set it isn't

fits_narrow : (a m c : ℕ) → a < 256 → m < 256 → c < 2 → overflow 256 a m (a + m + c) ≡ false → signed 256 ((a + m + c) % 256) ≡ signed 256 a +ℤ signed 256 m +ℤ pos c
fits_narrow a m c ha hm hc h = grind (arith, nat_tests, ints)

misfits_narrow : (a m c : ℕ) → a < 256 → m < 256 → c < 2 → overflow 256 a m (a + m + c) ≡ true → signed 256 ((a + m + c) % 256) ≡ signed 256 a +ℤ signed 256 m +ℤ pos c → ⊥
misfits_narrow a m c ha hm hc h e = grind (arith, nat_tests, ints)

signed_complement_narrow : (m : ℕ) → m < 256 → signed 256 (255 - m) ≡ neg_ℤ (signed 256 m +ℤ pos 1)
signed_complement_narrow m h = grind (arith, nat_tests, ints)

-- at 16 bits: where the overflow is clear the signed sum is right, and where it is set it isn't

fits_wide : (a m c : ℕ) → a < 65536 → m < 65536 → c < 2 → overflow 65536 a m (a + m + c) ≡ false → signed 65536 ((a + m + c) % 65536) ≡ signed 65536 a +ℤ signed 65536 m +ℤ pos c
fits_wide a m c ha hm hc h = grind (arith, nat_tests, ints)

misfits_wide : (a m c : ℕ) → a < 65536 → m < 65536 → c < 2 → overflow 65536 a m (a + m + c) ≡ true → signed 65536 ((a + m + c) % 65536) ≡ signed 65536 a +ℤ signed 65536 m +ℤ pos c → ⊥
misfits_wide a m c ha hm hc h e = grind (arith, nat_tests, ints)

signed_complement_wide : (m : ℕ) → m < 65536 → signed 65536 (65535 - m) ≡ neg_ℤ (signed 65536 m +ℤ pos 1)
signed_complement_wide m h = grind (arith, nat_tests, ints)

-- the same for a difference, whose operand is complemented

less_fits_narrow : (a m c : ℕ) → a < 256 → m < 256 → c < 2 → overflow 256 a (255 - m) (a + (255 - m) + c) ≡ false → signed 256 ((a + (255 - m) + c) % 256) ≡ signed 256 a -ℤ signed 256 m -ℤ pos (1 - c)
less_fits_narrow a m c ha hm hc h =
    sum_to_difference _ (signed 256 a) (signed 256 (255 - m)) (signed 256 m) c hc (signed_complement_narrow m hm) (fits_narrow a (255 - m) c ha (omega arith) hc h)

less_misfits_narrow : (a m c : ℕ) → a < 256 → m < 256 → c < 2 → overflow 256 a (255 - m) (a + (255 - m) + c) ≡ true → signed 256 ((a + (255 - m) + c) % 256) ≡ signed 256 a -ℤ signed 256 m -ℤ pos (1 - c) → ⊥
less_misfits_narrow a m c ha hm hc h e =
    misfits_narrow a (255 - m) c ha (omega arith) hc h
    (difference_to_sum _ (signed 256 a) (signed 256 (255 - m)) (signed 256 m) c hc (signed_complement_narrow m hm) e)

-- what ADC and SBC in binary make of A and V at this width

a_after_adc_narrow : (mode : Mode) (r : Regs) (word : ℕ) → flag r.p DECIMAL ≡ false → flag r.p MEMORY_8 ≡ true → (registers_after Adc mode r word).a % 256 ≡ (r.a % 256 + word % 256 + bit_of (flag r.p CARRY)) % 256
unfolding registers_after add take_sum load_a put_a sum_of binary_sum
a_after_adc_narrow mode r word d n = rw (n, d) (omega arith)

v_after_adc_narrow : (mode : Mode) (r : Regs) (word : ℕ) → flag r.p DECIMAL ≡ false → flag r.p MEMORY_8 ≡ true → flag (registers_after Adc mode r word).p OVERFLOW ≡ overflow 256 (r.a % 256) (word % 256) (r.a % 256 + word % 256 + bit_of (flag r.p CARRY))
unfolding registers_after add take_sum sum_of binary_sum
v_after_adc_narrow mode r word d n = put_64 _ _ ∙ (rw (n, d) refl)

a_after_sbc_narrow : (mode : Mode) (r : Regs) (word : ℕ) → flag r.p DECIMAL ≡ false → flag r.p MEMORY_8 ≡ true → (registers_after Sbc mode r word).a % 256 ≡ (r.a % 256 + (255 - word % 256) + bit_of (flag r.p CARRY)) % 256
unfolding registers_after subtract take_sum load_a put_a sum_of binary_sum
a_after_sbc_narrow mode r word d n = rw (n, d) (omega arith)

v_after_sbc_narrow : (mode : Mode) (r : Regs) (word : ℕ) → flag r.p DECIMAL ≡ false → flag r.p MEMORY_8 ≡ true → flag (registers_after Sbc mode r word).p OVERFLOW ≡ overflow 256 (r.a % 256) (255 - word % 256) (r.a % 256 + (255 - word % 256) + bit_of (flag r.p CARRY))
unfolding registers_after subtract take_sum sum_of binary_sum
v_after_sbc_narrow mode r word d n = put_64 _ _ ∙ (rw (n, d) refl)

-- the same for a difference, whose operand is complemented

less_fits_wide : (a m c : ℕ) → a < 65536 → m < 65536 → c < 2 → overflow 65536 a (65535 - m) (a + (65535 - m) + c) ≡ false → signed 65536 ((a + (65535 - m) + c) % 65536) ≡ signed 65536 a -ℤ signed 65536 m -ℤ pos (1 - c)
less_fits_wide a m c ha hm hc h =
    sum_to_difference _ (signed 65536 a) (signed 65536 (65535 - m)) (signed 65536 m) c hc (signed_complement_wide m hm) (fits_wide a (65535 - m) c ha (omega arith) hc h)

less_misfits_wide : (a m c : ℕ) → a < 65536 → m < 65536 → c < 2 → overflow 65536 a (65535 - m) (a + (65535 - m) + c) ≡ true → signed 65536 ((a + (65535 - m) + c) % 65536) ≡ signed 65536 a -ℤ signed 65536 m -ℤ pos (1 - c) → ⊥
less_misfits_wide a m c ha hm hc h e =
    misfits_wide a (65535 - m) c ha (omega arith) hc h
    (difference_to_sum _ (signed 65536 a) (signed 65536 (65535 - m)) (signed 65536 m) c hc (signed_complement_wide m hm) e)

-- what ADC and SBC in binary make of A and V at this width

a_after_adc_wide : (mode : Mode) (r : Regs) (word : ℕ) → flag r.p DECIMAL ≡ false → flag r.p MEMORY_8 ≡ false → (registers_after Adc mode r word).a % 65536 ≡ (r.a % 65536 + word % 65536 + bit_of (flag r.p CARRY)) % 65536
unfolding registers_after add take_sum load_a put_a sum_of binary_sum
a_after_adc_wide mode r word d n = rw (n, d) (omega arith)

v_after_adc_wide : (mode : Mode) (r : Regs) (word : ℕ) → flag r.p DECIMAL ≡ false → flag r.p MEMORY_8 ≡ false → flag (registers_after Adc mode r word).p OVERFLOW ≡ overflow 65536 (r.a % 65536) (word % 65536) (r.a % 65536 + word % 65536 + bit_of (flag r.p CARRY))
unfolding registers_after add take_sum sum_of binary_sum
v_after_adc_wide mode r word d n = put_64 _ _ ∙ (rw (n, d) refl)

a_after_sbc_wide : (mode : Mode) (r : Regs) (word : ℕ) → flag r.p DECIMAL ≡ false → flag r.p MEMORY_8 ≡ false → (registers_after Sbc mode r word).a % 65536 ≡ (r.a % 65536 + (65535 - word % 65536) + bit_of (flag r.p CARRY)) % 65536
unfolding registers_after subtract take_sum load_a put_a sum_of binary_sum
a_after_sbc_wide mode r word d n = rw (n, d) (omega arith)

v_after_sbc_wide : (mode : Mode) (r : Regs) (word : ℕ) → flag r.p DECIMAL ≡ false → flag r.p MEMORY_8 ≡ false → flag (registers_after Sbc mode r word).p OVERFLOW ≡ overflow 65536 (r.a % 65536) (65535 - word % 65536) (r.a % 65536 + (65535 - word % 65536) + bit_of (flag r.p CARRY))
unfolding registers_after subtract take_sum sum_of binary_sum
v_after_sbc_wide mode r word d n = put_64 _ _ ∙ (rw (n, d) refl)

-- the laws, at each width

adc_right_at : (b : Bool) (mode : Mode) (r : Regs) (word : ℕ) → flag r.p DECIMAL ≡ false → flag r.p MEMORY_8 ≡ b → flag (registers_after Adc mode r word).p OVERFLOW ≡ false → signed (memory_size r) ((registers_after Adc mode r word).a % memory_size r) ≡ signed (memory_size r) (r.a % memory_size r) +ℤ signed (memory_size r) (word % memory_size r) +ℤ pos (bit_of (flag r.p CARRY))
adc_right_at true mode r word d n v =
    rw (n, a_after_adc_narrow mode r word d n)
    (fits_narrow (r.a % 256) (word % 256) (bit_of (flag r.p CARRY)) (omega arith) (omega arith) (small_bit (flag r.p CARRY)) (sym (v_after_adc_narrow mode r word d n) ∙ v))
adc_right_at false mode r word d n v =
    rw (n, a_after_adc_wide mode r word d n)
    (fits_wide (r.a % 65536) (word % 65536) (bit_of (flag r.p CARRY)) (omega arith) (omega arith) (small_bit (flag r.p CARRY)) (sym (v_after_adc_wide mode r word d n) ∙ v))

pub adc_right : (mode : Mode) (r : Regs) (word : ℕ) → flag r.p DECIMAL ≡ false → flag (registers_after Adc mode r word).p OVERFLOW ≡ false → signed (memory_size r) ((registers_after Adc mode r word).a % memory_size r) ≡ signed (memory_size r) (r.a % memory_size r) +ℤ signed (memory_size r) (word % memory_size r) +ℤ pos (bit_of (flag r.p CARRY))
adc_right mode r word d v = adc_right_at (flag r.p MEMORY_8) mode r word d refl v

adc_wrong_at : (b : Bool) (mode : Mode) (r : Regs) (word : ℕ) → flag r.p DECIMAL ≡ false → flag r.p MEMORY_8 ≡ b → flag (registers_after Adc mode r word).p OVERFLOW ≡ true → signed (memory_size r) ((registers_after Adc mode r word).a % memory_size r) ≡ signed (memory_size r) (r.a % memory_size r) +ℤ signed (memory_size r) (word % memory_size r) +ℤ pos (bit_of (flag r.p CARRY)) → ⊥
adc_wrong_at true mode r word d n v =
    rw (n, a_after_adc_narrow mode r word d n)
    (misfits_narrow (r.a % 256) (word % 256) (bit_of (flag r.p CARRY)) (omega arith) (omega arith) (small_bit (flag r.p CARRY)) (sym (v_after_adc_narrow mode r word d n) ∙ v))
adc_wrong_at false mode r word d n v =
    rw (n, a_after_adc_wide mode r word d n)
    (misfits_wide (r.a % 65536) (word % 65536) (bit_of (flag r.p CARRY)) (omega arith) (omega arith) (small_bit (flag r.p CARRY)) (sym (v_after_adc_wide mode r word d n) ∙ v))

pub adc_wrong : (mode : Mode) (r : Regs) (word : ℕ) → flag r.p DECIMAL ≡ false → flag (registers_after Adc mode r word).p OVERFLOW ≡ true → signed (memory_size r) ((registers_after Adc mode r word).a % memory_size r) ≡ signed (memory_size r) (r.a % memory_size r) +ℤ signed (memory_size r) (word % memory_size r) +ℤ pos (bit_of (flag r.p CARRY)) → ⊥
adc_wrong mode r word d v = adc_wrong_at (flag r.p MEMORY_8) mode r word d refl v

sbc_right_at : (b : Bool) (mode : Mode) (r : Regs) (word : ℕ) → flag r.p DECIMAL ≡ false → flag r.p MEMORY_8 ≡ b → flag (registers_after Sbc mode r word).p OVERFLOW ≡ false → signed (memory_size r) ((registers_after Sbc mode r word).a % memory_size r) ≡ signed (memory_size r) (r.a % memory_size r) -ℤ signed (memory_size r) (word % memory_size r) -ℤ pos (1 - bit_of (flag r.p CARRY))
sbc_right_at true mode r word d n v =
    rw (n, a_after_sbc_narrow mode r word d n)
    (less_fits_narrow (r.a % 256) (word % 256) (bit_of (flag r.p CARRY)) (omega arith) (omega arith) (small_bit (flag r.p CARRY)) (sym (v_after_sbc_narrow mode r word d n) ∙ v))
sbc_right_at false mode r word d n v =
    rw (n, a_after_sbc_wide mode r word d n)
    (less_fits_wide (r.a % 65536) (word % 65536) (bit_of (flag r.p CARRY)) (omega arith) (omega arith) (small_bit (flag r.p CARRY)) (sym (v_after_sbc_wide mode r word d n) ∙ v))

pub sbc_right : (mode : Mode) (r : Regs) (word : ℕ) → flag r.p DECIMAL ≡ false → flag (registers_after Sbc mode r word).p OVERFLOW ≡ false → signed (memory_size r) ((registers_after Sbc mode r word).a % memory_size r) ≡ signed (memory_size r) (r.a % memory_size r) -ℤ signed (memory_size r) (word % memory_size r) -ℤ pos (1 - bit_of (flag r.p CARRY))
sbc_right mode r word d v = sbc_right_at (flag r.p MEMORY_8) mode r word d refl v

sbc_wrong_at : (b : Bool) (mode : Mode) (r : Regs) (word : ℕ) → flag r.p DECIMAL ≡ false → flag r.p MEMORY_8 ≡ b → flag (registers_after Sbc mode r word).p OVERFLOW ≡ true → signed (memory_size r) ((registers_after Sbc mode r word).a % memory_size r) ≡ signed (memory_size r) (r.a % memory_size r) -ℤ signed (memory_size r) (word % memory_size r) -ℤ pos (1 - bit_of (flag r.p CARRY)) → ⊥
sbc_wrong_at true mode r word d n v =
    rw (n, a_after_sbc_narrow mode r word d n)
    (less_misfits_narrow (r.a % 256) (word % 256) (bit_of (flag r.p CARRY)) (omega arith) (omega arith) (small_bit (flag r.p CARRY)) (sym (v_after_sbc_narrow mode r word d n) ∙ v))
sbc_wrong_at false mode r word d n v =
    rw (n, a_after_sbc_wide mode r word d n)
    (less_misfits_wide (r.a % 65536) (word % 65536) (bit_of (flag r.p CARRY)) (omega arith) (omega arith) (small_bit (flag r.p CARRY)) (sym (v_after_sbc_wide mode r word d n) ∙ v))

pub sbc_wrong : (mode : Mode) (r : Regs) (word : ℕ) → flag r.p DECIMAL ≡ false → flag (registers_after Sbc mode r word).p OVERFLOW ≡ true → signed (memory_size r) ((registers_after Sbc mode r word).a % memory_size r) ≡ signed (memory_size r) (r.a % memory_size r) -ℤ signed (memory_size r) (word % memory_size r) -ℤ pos (1 - bit_of (flag r.p CARRY)) → ⊥
sbc_wrong mode r word d v = sbc_wrong_at (flag r.p MEMORY_8) mode r word d refl v
