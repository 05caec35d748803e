-- The search for a chunk, a chunk at a time.
use Rattle.std.proofs.Common.{◌≡◌, ℕ, zero, suc, ◌+◌, ◌-◌, ◌<◌, ◌≤◌, Bool, true, false, List, Option, Some, None, refl, ap, sym, ◌∙◌, subst, arith}
use Rattle.std.specs.Prelude.{◌==◌, if◌then◌else◌}
use Rattle.sound_tags.specs.declared.chunk.Chunk.{Chunk}
use Rattle.sound_tags.specs.Chunks.{chunk_at, or_next, chunk_from}

stepped : (most : ℕ) (file : List ℕ) (end at id : ℕ) → chunk_from (suc most) file end at id ≡ or_next id (chunk_at file end at) (λ next. chunk_from most file end next id)
unfolding chunk_from
stepped most file end at id = refl

-- one chunk is looked at
one_chunk : (n : ℕ) (file : List ℕ) (end at id : ℕ) (found : Option Chunk) → n < end → chunk_at file end at ≡ found
    → chunk_from (end - n) file end at id ≡ or_next id found (λ next. chunk_from (end - (n + 1)) file end next id)
one_chunk n file end at id found h e =
    let more : suc (end - (n + 1)) ≡ end - n = omega (arith, h) in
    let rest : ℕ → Option Chunk = λ next. chunk_from (end - (n + 1)) file end next id in
    subst (λ (most : ℕ). chunk_from most file end at id ≡ or_next id found rest) more
    (stepped (end - (n + 1)) file end at id ∙ ap (λ (o : Option Chunk). or_next id o rest) e)

-- there is none at this offset
pub no_more : (n : ℕ) (file : List ℕ) (end at id : ℕ) → n < end → chunk_at file end at ≡ None → chunk_from (end - n) file end at id ≡ None
no_more n file end at id h e = one_chunk n file end at id None h e

chosen : {A : Type 0} (b : Bool) (x y : A) → b ≡ true → (if b then x else y) ≡ x
chosen true x y e = refl
chosen false x y e = absurd (cc)

passed : {A : Type 0} (b : Bool) (x y : A) → b ≡ false → (if b then x else y) ≡ y
passed true x y e = absurd (cc)
passed false x y e = refl

-- it has the ID
pub found_it : (n : ℕ) (file : List ℕ) (end at id : ℕ) (chunk : Chunk) → n < end → chunk_at file end at ≡ Some chunk → (chunk.id == id) ≡ true
    → chunk_from (end - n) file end at id ≡ Some chunk
found_it n file end at id chunk h e same =
    one_chunk n file end at id (Some chunk) h e ∙ chosen (chunk.id == id) (Some chunk) (chunk_from (end - (n + 1)) file end chunk.next id) same

-- it has another ID
pub passed_it : (n : ℕ) (file : List ℕ) (end at id : ℕ) (chunk : Chunk) → n < end → chunk_at file end at ≡ Some chunk → (chunk.id == id) ≡ false
    → chunk_from (end - n) file end at id ≡ chunk_from (end - (n + 1)) file end chunk.next id
passed_it n file end at id chunk h e other =
    one_chunk n file end at id (Some chunk) h e ∙ passed (chunk.id == id) (Some chunk) (chunk_from (end - (n + 1)) file end chunk.next id) other

-- as many chunks were looked at as there are bytes
pub none_left : (n : ℕ) (file : List ℕ) (end at id : ℕ) → end ≤ n → chunk_from (end - n) file end at id ≡ None
unfolding chunk_from
none_left n file end at id h =
    let none : 0 ≡ end - n = omega (arith, h) in
    subst (λ (most : ℕ). chunk_from most file end at id ≡ None) none refl
