-- The first item of a list of voices.
use Rattle.std.proofs.Common.{◌≡◌, ℕ, suc, ◌+◌, ◌-◌, ◌<◌, ◌≤◌, Bool, true, false, not, cond, nat_lt, ◌==◌, if◌then◌else◌, List, [], ◌∷◌, length, take, drop, Some, None, position, refl, ap, sym, ◌∙◌, subst, arith}
use Rattle.std.specs.List.{position_or_len}
use Rattle.std.proofs.lemmas.Bool.{ltb-true, ltb-false}
use Rattle.std.proofs.lemmas.List.{take_all, drop_all, drop-drop, length-drop}
use Rattle.run_io.specs.Stems.{onto, items}

abbrev is_comma : ℕ → Bool
is_comma byte = byte == 0x2C

-- the items behind the first one, of what its end begins
abbrev behind : List ℕ → List (List ℕ)
behind [] = []
behind (byte ∷ bytes) = items bytes

chosen : {A : Type 0} (b : Bool) (x y : A) → b ≡ true → (if b then x else y) ≡ x
chosen true x y e = refl
chosen false x y e = absurd cc

passed : {A : Type 0} (b : Bool) (x y : A) → b ≡ false → (if b then x else y) ≡ y
passed true x y e = absurd cc
passed false x y e = refl

items_of : (byte : ℕ) (bytes : List ℕ) → items (byte ∷ bytes) ≡ (if byte == 0x2C then [] ∷ items bytes else onto byte (items bytes))
unfolding items
items_of byte bytes = refl

items_none : items [] ≡ [] ∷ []
unfolding items
items_none = refl

longer : (at byte : ℕ) (bytes : List ℕ)
    → (byte ∷ take at bytes) ∷ behind (drop at bytes) ≡ take (1 + at) (byte ∷ bytes) ∷ behind (drop (1 + at) (byte ∷ bytes))
longer at byte bytes = subst (λ (n : ℕ). (byte ∷ take at bytes) ∷ behind (drop at bytes) ≡ take n (byte ∷ bytes) ∷ behind (drop n (byte ∷ bytes))) (let e : suc at ≡ 1 + at = omega arith in e) refl

abbrev Split : List ℕ → Type 0
Split list = items list ≡ take (position_or_len is_comma list) list ∷ behind (drop (position_or_len is_comma list) list)

split_next : (byte : ℕ) (bytes : List ℕ) → Split bytes → (b : Bool) → (byte == 0x2C) ≡ b → Split (byte ∷ bytes)
split_next byte bytes rest true e =
    let at = position_or_len is_comma bytes in
    items_of byte bytes ∙ chosen (byte == 0x2C) ([] ∷ items bytes) (onto byte (items bytes)) e
    ∙ ap (λ (b : Bool). take (cond (not b) (1 + at) 0) (byte ∷ bytes) ∷ behind (drop (cond (not b) (1 + at) 0) (byte ∷ bytes))) (sym e)
split_next byte bytes rest false e =
    let at = position_or_len is_comma bytes in
    items_of byte bytes ∙ passed (byte == 0x2C) ([] ∷ items bytes) (onto byte (items bytes)) e
    ∙ ap (onto byte) rest ∙ longer at byte bytes
    ∙ ap (λ (b : Bool). take (cond (not b) (1 + at) 0) (byte ∷ bytes) ∷ behind (drop (cond (not b) (1 + at) 0) (byte ∷ bytes))) (sym e)

-- the first item is what is before the first comma
split : (list : List ℕ) → Split list
split [] = items_none
split (byte ∷ bytes) = split_next byte bytes (split bytes) (byte == 0x2C) refl

behind_next : (list : List ℕ) → 0 < length list → behind list ≡ items (drop 1 list)
behind_next [] h = absurd (omega (arith, h))
behind_next (byte ∷ bytes) h = refl

-- its place
found : (n : ℕ) (b : Bool) (at : ℕ) → cond b (Some n) None ≡ Some at → (b ≡ true) × (n ≡ at)
found n true at e = (refl, cc)
found n false at e = absurd cc

missing : (n : ℕ) (b : Bool) → cond b (Some n) None ≡ None → b ≡ false
missing n true e = absurd cc
missing n false e = refl

-- without a comma the list is its one item
pub last_item : (list : List ℕ) → position is_comma list ≡ None → items list ≡ list ∷ []
last_item list none =
    let at = position_or_len is_comma list in
    let whole : length list ≤ at = ltb-false at (length list) (missing at (nat_lt at (length list)) none) in
    split list ∙ ap (λ (l : List ℕ). l ∷ behind (drop at list)) (take_all at list whole) ∙ ap (λ (l : List ℕ). list ∷ behind l) (drop_all at list whole)

-- with one, the others are those of what is behind it, which is all of that
pub first_item : (list : List ℕ) (at : ℕ) → position is_comma list ≡ Some at → items list ≡ take at list ∷ items (take (length list - (at + 1)) (drop (at + 1) list))
first_item list at some =
    let is = found (position_or_len is_comma list) (nat_lt (position_or_len is_comma list) (length list)) at some in
    let within : at < length list = subst (λ (n : ℕ). n < length list) is.1 (ltb-true (position_or_len is_comma list) (length list) is.0) in
    let left : 0 < length (drop at list) = omega (arith, within, length-drop at list) in
    let whole : take (length list - (at + 1)) (drop (at + 1) list) ≡ drop (at + 1) list = take_all (length list - (at + 1)) (drop (at + 1) list) (omega (arith, length-drop (at + 1) list)) in
    split list ∙ ap (λ (n : ℕ). take n list ∷ behind (drop n list)) is.1
    ∙ ap (λ (l : List (List ℕ)). take at list ∷ l) (behind_next (drop at list) left ∙ ap items (drop-drop 1 at list ∙ sym whole))
