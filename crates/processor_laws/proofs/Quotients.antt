use Rattle.std.proofs.Common.{◌≡◌, ℕ, ◌+◌, ◌*◌, ◌/◌, ◌%◌, ◌<◌, true, false, nat_le, nat_lt, refl, arith, sym, ◌∙◌}
use Rattle.std.proofs.Math.Nat.{div-lt_iff_lt-mul, mod-lt, mod-eq_of_lt}
use Rattle.std.proofs.lemmas.Nat.{div-add-mod'}
use Rattle.std.proofs.lemmas.Bool.Decides.{nat_tests}
use Rattle.status_bits.specs.StatusBits.{flag}
use Rattle.spc_tables.specs.declared.flags.TheConstants.{OVERFLOW}
use Rattle.spc_tables.specs.declared.mode.SpcMode.{SpcMode}
use Rattle.spc_tables.specs.declared.operation.SpcOp.TheVariants.{Mul, Div}
use Rattle.spc_tables.specs.declared.regs.SpcRegs.{SpcRegs}
use Rattle.spc_alu.specs.Arithmetic.{multiply, divide, quotient, remainder, is_divided}
use Rattle.spc_alu.specs.Results.{internal}
use Rattle.spc_alu.specs.Words.{ya}
use Rattle.processor_laws.proofs.Overflow.{overflow_of_put}

bytes_of : (p : ℕ) → p % 256 + 256 * (p / 256) ≡ p
bytes_of p = omega arith

pub product : (mode : SpcMode) (r : SpcRegs) → ya (internal Mul mode r) ≡ r.y * r.a
unfolding internal multiply
product mode r = bytes_of (r.y * r.a)

overflow_after : (mode : SpcMode) (r : SpcRegs) → flag (internal Div mode r).psw OVERFLOW ≡ nat_le r.x r.y
unfolding internal divide
overflow_after mode r = overflow_of_put _ _ _

below : (x y : ℕ) → nat_le x y ≡ false → y < x
below x y h = grind (arith, nat_tests)

not_above : (x y : ℕ) → y < x → nat_le x y ≡ false
not_above x y h = grind (arith, nat_tests)

is_below : (x y : ℕ) → y < x → nat_lt y (2 * x) ≡ true
is_below x y h = grind (arith, nat_tests)

quotient_of : (mode : SpcMode) (r : SpcRegs) → (internal Div mode r).a ≡ quotient r
unfolding internal divide
quotient_of mode r = refl

remainder_of : (mode : SpcMode) (r : SpcRegs) → (internal Div mode r).y ≡ remainder r
unfolding internal divide
remainder_of mode r = refl

-- where Y is below X the word YA is below 256 X
word_below : (a x y : ℕ) → a < 256 → y < x → a + 256 * y < 256 * x
word_below a x y ha h = omega arith

divided : (a x y : ℕ) → a < 256 → y < x → (a + 256 * y) / x % 256 * x + (a + 256 * y) % x ≡ a + 256 * y
divided a x y ha h =
    let positive : 0 < x = omega arith in
    let small : (a + 256 * y) / x < 256 = (div-lt_iff_lt-mul {k = x} {x = a + 256 * y} {y = 256} positive).1 (word_below a x y ha h) in
    let same : (a + 256 * y) / x % 256 ≡ (a + 256 * y) / x = mod-eq_of_lt small in
    rw same (div-add-mod' (a + 256 * y) x)

pub whole : (mode : SpcMode) (r : SpcRegs) → r.a < 256 → flag (internal Div mode r).psw OVERFLOW ≡ false → (internal Div mode r).a * r.x + (internal Div mode r).y ≡ ya r
whole mode r ha v =
    let h : r.y < r.x = below r.x r.y (sym (overflow_after mode r) ∙ v) in
    let d : is_divided r ≡ true = is_below r.x r.y h in
    rw (quotient_of mode r, remainder_of mode r, d) (divided r.a r.x r.y ha h)

pub remainder_below : (mode : SpcMode) (r : SpcRegs) → flag (internal Div mode r).psw OVERFLOW ≡ false → (internal Div mode r).y < r.x
remainder_below mode r v =
    let h : r.y < r.x = below r.x r.y (sym (overflow_after mode r) ∙ v) in
    let d : is_divided r ≡ true = is_below r.x r.y h in
    let positive : 0 < r.x = omega arith in
    rw (remainder_of mode r, d) (mod-lt (ya r) positive)

pub told : (mode : SpcMode) (r : SpcRegs) → r.a < 256 → (flag (internal Div mode r).psw OVERFLOW ≡ false → ya r < 256 * r.x) × (ya r < 256 * r.x → flag (internal Div mode r).psw OVERFLOW ≡ false)
told mode r ha = (
  (λ v. let h : r.y < r.x = below r.x r.y (sym (overflow_after mode r) ∙ v) in omega arith),
  λ small. let h : r.y < r.x = omega arith in overflow_after mode r ∙ not_above r.x r.y h,
)
