use Rattle.std.proofs.Common.{◌≡◌, ◌≢◌, ℕ, ◌+◌, ◌/◌, ◌%◌, ◌<◌, Bool, true, false, if◌then◌else◌, refl, ap, arith, eq-eqb}
use Rattle.std.proofs.lemmas.Bool.{ne_eqb}
use Rattle.processor_laws.specs.Outcomes.{Memory, stored}

-- what a push and a pull make of a stack pointer, and where it points
abbrev pub down : Bool → ℕ → ℕ
down e s = if e then 256 + (s + 255) % 256 else (s + 65535) % 65536

abbrev pub up : Bool → ℕ → ℕ
up e s = if e then 256 + (s + 1) % 256 else (s + 1) % 65536

abbrev pub points : Bool → ℕ → ℕ
points e s = if e then 256 + s % 256 else s

-- a stack pointer as a processor can have it
pub record IsStack (e : Bool) (s : ℕ) : Type 0 where
  pub below : s < 65536
  pub page : e ≡ true → s / 256 ≡ 1

pub up-down : (e : Bool) (s : ℕ) → IsStack e s → up e (down e s) ≡ s
up-down true s h = let p : s / 256 ≡ 1 = h.page refl in omega arith
up-down false s h = omega arith

pub IsStack-down : (e : Bool) (s : ℕ) → IsStack e (down e s)
IsStack-down true s = record { below = omega arith; page = λ _. omega arith }
IsStack-down false s = record { below = omega arith; page = λ h. cc }

pub points-apart : (e : Bool) (s : ℕ) → IsStack e s → points e s ≢ points e (down e s)
points-apart true s h = λ same. omega arith
points-apart false s h = λ same. omega arith

pub points-far_apart : (e : Bool) (s : ℕ) → IsStack e s → points e s ≢ points e (down e (down e s))
points-far_apart true s h = λ same. omega arith
points-far_apart false s h = λ same. omega arith

-- what a memory has after a write
pub stored-same : (m : Memory) (at byte : ℕ) → stored m at byte at ≡ byte
stored-same m at byte = ap (λ b. if b then byte else m at) (eq-eqb at at refl)

pub stored-other : (m : Memory) (at byte other : ℕ) → other ≢ at → stored m at byte other ≡ m other
stored-other m at byte other h = ap (λ b. if b then byte else m other) (ne_eqb other at h)
