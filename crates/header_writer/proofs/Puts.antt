-- Lemmas on the bytes that are written into a file.
use Rattle.std.proofs.Common.{◌≡◌, ℕ, ◌+◌, ◌-◌, ◌%◌, ◌<◌, ◌≤◌, ◌⊎◌, true, false, List, ◌++◌, length, take, drop, get_or, arith, refl, sym, ◌∙◌, ap, inl, inr, length-append, length-drop, length-take-le}
use Rattle.std.specs.Prelude.{slice_index, nat_eq, if◌then◌else◌}
use Rattle.std.specs.List.{splice}
use Rattle.std.proofs.Math.ListN.{get_or-append}
use Rattle.std.proofs.Math.Seq.{get_or-append_right}
use Rattle.std.proofs.lemmas.List.{get_or-take, get_or-drop, drop-drop}
use borrow.Rule.Slice.PartMut.{put_mid}
use Rattle.cart_map.specs.Accept.{image_of}
use Rattle.header_writer.specs.Written.{front_of, with_bytes}

-- the image in a file is what is behind its front
pub image_is : (file : List ℕ) → image_of file ≡ drop (front_of file) file
unfolding image_of
image_is file = elim (nat_eq (length file % 1024) 512) as (λ b. (if b then drop 512 file else file) ≡ drop (if b then 512 else 0) file) [ true ↦ refl | false ↦ refl ]

-- a write to a part of a list
pub put_spliced : (xs ys : List ℕ) (a k : ℕ) → put_mid a k xs ys ≡ splice xs a (a + k) ys
put_spliced xs ys a k = ap (λ rest. take a xs ++ (ys ++ rest)) (drop-drop k a xs)

-- a part that is replaced by one of the same length: how long the list is, and its elements before, in and behind the part
same_length : (xs ys : List ℕ) (a e : ℕ) → a + length ys ≡ e → e ≤ length xs → length (splice xs a e ys) ≡ length xs
same_length xs ys a e size fits =
    omega (arith, length-append (take a xs) (ys ++ drop e xs), length-append ys (drop e xs), length-take-le a xs (omega arith), length-drop e xs)

element_before : (xs ys : List ℕ) (a e i : ℕ) → a ≤ length xs → i < a → get_or (splice xs a e ys) i 0 ≡ get_or xs i 0
element_before xs ys a e i fits before =
    get_or-append (take a xs) (ys ++ drop e xs) 0 i (omega (arith, length-take-le a xs fits)) ∙ get_or-take a xs i 0 before

element_behind_start : (xs ys : List ℕ) (a e k : ℕ) → a ≤ length xs → get_or (splice xs a e ys) (a + k) 0 ≡ get_or (ys ++ drop e xs) k 0
element_behind_start xs ys a e k fits =
    let start = length-take-le a xs fits in
    get_or-append_right (take a xs) (ys ++ drop e xs) (a + k) 0 (omega (arith, start))
    ∙ ap (λ n. get_or (ys ++ drop e xs) n 0) {x = a + k - length (take a xs)} {y = k} (omega (arith, start))

element_in : (xs ys : List ℕ) (a e k : ℕ) → a ≤ length xs → k < length ys → get_or (splice xs a e ys) (a + k) 0 ≡ get_or ys k 0
element_in xs ys a e k fits inside = element_behind_start xs ys a e k fits ∙ get_or-append ys (drop e xs) 0 k inside

element_behind : (xs ys : List ℕ) (a e i : ℕ) → a + length ys ≡ e → e ≤ length xs → e ≤ i → get_or (splice xs a e ys) i 0 ≡ get_or xs i 0
element_behind xs ys a e i size fits behind =
    ap (λ n. get_or (splice xs a e ys) n 0) {x = i} {y = a + (i - a)} (omega arith)
    ∙ element_behind_start xs ys a e (i - a) (omega arith)
    ∙ get_or-append_right ys (drop e xs) (i - a) 0 (omega arith)
    ∙ get_or-drop e xs (i - a - length ys) 0
    ∙ ap (λ n. get_or xs n 0) {x = e + (i - a - length ys)} {y = i} (omega arith)

-- a byte of the image is one of the file
image_byte : (file : List ℕ) (i : ℕ) → slice_index (image_of file) i ≡ slice_index file (front_of file + i)
image_byte file i = ap (λ image. slice_index image i) (image_is file) ∙ get_or-drop (front_of file) file i 0

-- a write fits into a file
abbrev pub Fits_in : ℕ → List ℕ → List ℕ → Type 0
Fits_in place bytes file = front_of file + place + length bytes ≤ length file

-- after a write a file is as long as before, and so its image begins at the same place
pub put_size : (place : ℕ) (bytes file : List ℕ) → Fits_in place bytes file → length (with_bytes place bytes file) ≡ length file
put_size place bytes file fits = same_length file bytes (front_of file + place) (front_of file + place + length bytes) refl fits

pub put_front : (place : ℕ) (bytes file : List ℕ) → Fits_in place bytes file → front_of (with_bytes place bytes file) ≡ front_of file
put_front place bytes file fits = ap (λ n. if nat_eq (n % 1024) 512 then 512 else 0) (put_size place bytes file fits)

-- a byte of the image is one of those that were written, or is as it was
pub byte_in : (place : ℕ) (bytes file : List ℕ) (k i : ℕ) → Fits_in place bytes file → k < length bytes → i ≡ place + k
    → slice_index (image_of (with_bytes place bytes file)) i ≡ slice_index bytes k
byte_in place bytes file k i fits inside at =
    let front = put_front place bytes file fits in
    image_byte (with_bytes place bytes file) i
    ∙ ap (λ n. slice_index (with_bytes place bytes file) n) {x = front_of (with_bytes place bytes file) + i} {y = front_of file + place + k} (omega (arith, front, at))
    ∙ element_in file bytes (front_of file + place) (front_of file + place + length bytes) k (omega (arith, fits)) inside

pub byte_outside : (place : ℕ) (bytes file : List ℕ) (i : ℕ) → Fits_in place bytes file → (i < place) ⊎ (place + length bytes ≤ i)
    → slice_index (image_of (with_bytes place bytes file)) i ≡ slice_index (image_of file) i
byte_outside place bytes file i fits outside =
    image_byte (with_bytes place bytes file) i
    ∙ ap (λ n. slice_index (with_bytes place bytes file) (n + i)) (put_front place bytes file fits)
    ∙ elim outside [
      | inl before ↦ element_before file bytes (front_of file + place) (front_of file + place + length bytes) (front_of file + i) (omega (arith, fits)) (omega arith)
      | inr behind ↦ element_behind file bytes (front_of file + place) (front_of file + place + length bytes) (front_of file + i) refl fits (omega arith)
    ]
    ∙ sym (image_byte file i)
