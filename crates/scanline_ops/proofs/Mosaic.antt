-- Blocks of dots: the place in a block counts on, and the first dot of a block is its own first.
use Rattle.std.proofs.Common.{◌≡◌, ℕ, ◌+◌, ◌-◌, ◌*◌, ◌/◌, ◌%◌, ◌<◌, ◌≤◌, ◌==◌, if◌then◌else◌, ap, ◌∙◌, arith}
use Rattle.std.proofs.lemmas.Nat.{mod-mul-add}
use Rattle.std.proofs.Math.Nat.{mod-add-div'}

-- the place in a block after a last one
next_block : (x size place : ℕ) → place ≡ x % size → place + 1 ≡ size → 0 < size → (x + 1) % size ≡ 0
next_block x size place h last positive =
    let whole = mod-add-div' x size in
    let next : x + 1 ≡ (x / size) * size + size = omega (arith, whole) in
    let more : (x / size) * size + size ≡ (x / size + 1) * size + 0 = grind arith in
    ap (λ n. n % size) (next ∙ more) ∙ mod-mul-add (x / size + 1) size 0 positive

-- and after another
same_block : (x size place : ℕ) → place ≡ x % size → place + 1 < size → (x + 1) % size ≡ place + 1
same_block x size place h inside =
    let whole = mod-add-div' x size in
    let next : x + 1 ≡ (x / size) * size + (place + 1) = omega (arith, whole) in
    ap (λ n. n % size) next ∙ mod-mul-add (x / size) size (place + 1) inside

pub mod_next :
    (x size place : ℕ) → place ≡ x % size → place < size →
    (x + 1) % size ≡ (if place + 1 == size then 0 else place + 1)
mod_next x size place h within = grind (arith, next_block x size place h, same_block x size place h)

-- the first dot of a block
pub first_of_first : (x size : ℕ) → 1 ≤ size → (x - x % size) % size ≡ 0
first_of_first x size positive =
    let whole = mod-add-div' x size in
    let first : x - x % size ≡ (x / size) * size + 0 = omega (arith, whole) in
    ap (λ n. n % size) first ∙ mod-mul-add (x / size) size 0 (omega arith)
