-- Lemmas on the generator's numbers and the bytes that they make.
use Rattle.std.proofs.Common.{◌≡◌, ℕ, ◌+◌, ◌-◌, ◌/◌, ◌<◌, ◌≤◌, arith, refl, ap, ◌∙◌, add-one}
use Rattle.std.proofs.lemmas.Bool.{lt-ltb, le-ltb}
use Rattle.demo_files.specs.Image.{head_of, number_next, number_after, byte_of}

-- no step
pub number_none : (n : ℕ) → number_after 0 n ≡ n
unfolding number_after
number_none n = refl

-- one step
one_more : (steps n : ℕ) → number_after (steps + 1) n ≡ number_next (number_after steps n)
unfolding number_after
one_more steps n = rw (add-one steps) refl

-- the number behind the first page, a byte further
pub number_more : (size n : ℕ) → 32768 ≤ size → number_after (size + 1 - 32768) n ≡ number_next (number_after (size - 32768) n)
number_more size n long =
    let shift : size + 1 - 32768 ≡ size - 32768 + 1 = omega arith in
    ap (λ steps. number_after steps n) shift ∙ one_more (size - 32768) n

-- a byte of the first page
pub byte_head : (n offset : ℕ) → offset < 32768 → byte_of n offset ≡ head_of offset
byte_head n offset lt = rw (lt-ltb offset 32768 lt) refl

-- a byte behind it
pub byte_behind : (n size : ℕ) → 32768 ≤ size → byte_of n size ≡ number_next (number_after (size - 32768) n) / 16777216
byte_behind n size long =
    rw (le-ltb size 32768 long) (ap (λ x. x / 16777216) (one_more (size - 32768) n))
