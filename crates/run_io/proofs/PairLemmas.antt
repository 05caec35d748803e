-- Lemmas on pairs of words.
use Rattle.std.proofs.Common.{◌≡◌, ℕ, Bool, true, false, not, ◌&&◌, nat_le, nat_eq, List, [], ◌∷◌, length, slice_index, if◌then◌else◌, refl, ap, ◌∙◌, arith}
use Rattle.std.specs.List.{list_all}
use Rattle.std.specs.Str.{bytes_eq}
use Rattle.std.proofs.lemmas.Bool.{leb-true}
use Rattle.shelf.specs.declared.shelves.Out.{Out}
use Rattle.run_io.specs.Words.{word_behind, is_value, output_name}
use Rattle.run_io.specs.Lists.{AllOf}
use Rattle.run_io.specs.Form.{IsName}

-- behind a pair of another option the word is sought in the rest
pub word_next : (words : List (List ℕ)) (name value : List ℕ) (rest : List (List ℕ)) (option : List ℕ)
    → words ≡ name ∷ (value ∷ rest) → bytes_eq name option ≡ false → word_behind words option ≡ word_behind rest option
word_next words name value rest option is other =
    ap (λ w. word_behind w option) is ∙ ap (λ b. if b then value else word_behind rest option) other

both : (a b : Bool) → a && b ≡ true → (a ≡ true) × (b ≡ true)
both true b h = (refl, h)
both false b h = absurd cc

-- a value is a name
name_is : (word : List ℕ) → is_value word ≡ true → IsName word
name_is word h =
    let first = both (nat_le 1 (length word)) (nat_le (length word) 4096 && not (nat_eq (slice_index word 0) 45)) h in
    let more = both (nat_le (length word) 4096) (not (nat_eq (slice_index word 0) 45)) first.1 in
    record { some = omega (arith, leb-true 1 (length word) first.0); fits = leb-true (length word) 4096 more.0 }

-- the names of outputs are names where there is a value behind each
pub are_names : (pairs : List (List ℕ)) (outputs : List Out) → list_all (λ out. is_value (output_name pairs out)) outputs ≡ true → AllOf (λ out. IsName (output_name pairs out)) outputs
are_names pairs [] h = tt
are_names pairs (out ∷ outputs) h =
    let one = both (is_value (output_name pairs out)) (list_all (λ o. is_value (output_name pairs o)) outputs) h in
    (name_is (output_name pairs out) one.0, are_names pairs outputs one.1)
