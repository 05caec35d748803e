-- A row of dots as bytes.
use Rattle.std.proofs.Common.{◌≡◌, ℕ, zero, suc, ◌+◌, ◌*◌, ◌/◌, ◌%◌, ◌<◌, ◌≤◌, List, [], ◌∷◌, ◌++◌, length, take, slice_index, inl, inr, refl, sym, ap, subst, ◌∙◌, arith, length-append}
use Rattle.std.specs.List.{flat_map}
use Rattle.std.proofs.Math.Seq.{get_or-append_seam}
use Rattle.std.proofs.lemmas.List.{append_assoc, append-nil, get_or_append_left, take_all, take_more}
use Rattle.std.proofs.lemmas.Grind.{flat_map-append, same_number_lists}
use Rattle.std.proofs.lemmas.Bool.{cases_lt}
use Rattle.byteorder.specs.Endian.{little_bytes}
use Rattle.console_bus.specs.Happenings.{list_of, byte_of_dots}

pub length-list_of : (n : ℕ) (f : ℕ → ℕ) → length (list_of n f) ≡ n
unfolding list_of
length-list_of zero f = refl
length-list_of (suc n) f =
    let rest = length-list_of n f in
    simp (length-append) (omega arith)

list_of-last : (n : ℕ) (f : ℕ → ℕ) → slice_index (list_of n f ++ (f n ∷ [])) n ≡ f n
list_of-last n f = subst (λ m. slice_index (list_of n f ++ (f n ∷ [])) m ≡ f n) (length-list_of n f) (get_or-append_seam (list_of n f) (f n) [] 0)

list_of-before : (n : ℕ) (f : ℕ → ℕ) (k : ℕ) → k < n → slice_index (list_of n f ++ (f n ∷ [])) k ≡ slice_index (list_of n f) k
list_of-before n f k h = get_or_append_left (list_of n f) (f n ∷ []) 0 k (rw (length-list_of n f) h)

pub index-list_of : (n : ℕ) (f : ℕ → ℕ) (k : ℕ) → k < n → slice_index (list_of n f) k ≡ f k
unfolding list_of
index-list_of zero f k h = absurd (omega arith)
index-list_of (suc n) f k h = elim (cases_lt k n) [
  | inl below ↦ list_of-before n f k below ∙ index-list_of n f k below
  | inr above ↦ (let same : k ≡ n = omega arith in rw same (list_of-last n f))
]

-- a list of so many numbers is told by them
pub is_list_of : (xs : List ℕ) (n : ℕ) (f : ℕ → ℕ) → length xs ≡ n → ((k : ℕ) → k < n → slice_index xs k ≡ f k) → xs ≡ list_of n f
is_list_of xs n f size each =
    same_number_lists xs (list_of n f) (size ∙ sym (length-list_of n f))
    (λ k h. let below : k < n = omega (arith, size) in each k below ∙ sym (index-list_of n f k below))

pub list_of-same : (n : ℕ) (f g : ℕ → ℕ) → ((k : ℕ) → k < n → f k ≡ g k) → list_of n f ≡ list_of n g
list_of-same n f g same =
    is_list_of (list_of n f) n g (length-list_of n f) (λ k h. index-list_of n f k h ∙ same k h)

-- equal dots have equal bytes
pub bytes-same : (f g : ℕ → ℕ) → ((e : ℕ) → e < 512 → f e ≡ g e) → (k : ℕ) → k < 1024 → byte_of_dots f k ≡ byte_of_dots g k
unfolding byte_of_dots
bytes-same f g same k h =
    let e : f (k / 2) ≡ g (k / 2) = same (k / 2) (omega arith) in
    rw e refl

byte_low : (dot : ℕ → ℕ) (e : ℕ) → byte_of_dots dot (2 * e) ≡ dot e % 256
unfolding byte_of_dots
byte_low dot e =
    let even : 2 * e % 2 ≡ 0 = omega arith in
    let half : 2 * e / 2 ≡ e = omega arith in
    rw (even, half) refl

byte_high : (dot : ℕ → ℕ) (e : ℕ) → byte_of_dots dot (suc (2 * e)) ≡ dot e / 256
unfolding byte_of_dots
byte_high dot e =
    let odd : suc (2 * e) % 2 ≡ 1 = omega arith in
    let half : suc (2 * e) / 2 ≡ e = omega arith in
    rw (odd, half) refl

-- two bytes more
two_more : (f : ℕ → ℕ) (n : ℕ) → list_of (suc (suc n)) f ≡ list_of n f ++ (f n ∷ f (suc n) ∷ [])
unfolding list_of
two_more f n = append_assoc (list_of n f) (f n ∷ []) (f (suc n) ∷ [])

-- the first dots, each written low byte first, are the first bytes of the row
first_bytes : (dots : List ℕ) → ((e : ℕ) → slice_index dots e < 65536) → (i : ℕ) → i ≤ length dots
    → flat_map (little_bytes 2) (take i dots) ≡ list_of (2 * i) (byte_of_dots (slice_index dots))
unfolding list_of
first_bytes dots small zero fits = refl
first_bytes dots small (suc i) fits =
    let before = first_bytes dots small i (omega arith) in
    let dot = slice_index dots i in
    let next : suc i ≡ i + 1 = omega arith in
    let more : take (i + 1) dots ≡ take i dots ++ (dot ∷ []) = take_more dots i 0 (omega arith) in
    let low = byte_low (slice_index dots) i in
    let high = byte_high (slice_index dots) i in
    let within : dot / 256 % 256 ≡ dot / 256 = omega (arith, small i) in
    let twice : 2 * (i + 1) ≡ suc (suc (2 * i)) = omega arith in
    rw (next, more, flat_map-append, append-nil, before, twice, two_more, low, high, within) refl

-- so are all
pub all_bytes : (dots : List ℕ) → ((e : ℕ) → slice_index dots e < 65536) → flat_map (little_bytes 2) dots ≡ list_of (2 * length dots) (byte_of_dots (slice_index dots))
all_bytes dots small = ap (flat_map (little_bytes 2)) (sym (take_all (length dots) dots (omega arith))) ∙ first_bytes dots small (length dots) (omega arith)
