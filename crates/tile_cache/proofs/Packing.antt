-- Eight pixels in one number: its bytes, and the numbers of a word.
use Rattle.std.proofs.Common.{◌≡◌, ℕ, zero, suc, ◌+◌, ◌-◌, ◌*◌, ◌/◌, ◌%◌, ◌<◌, ◌≤◌, List, [], ◌∷◌, slice_index, refl, ap, arith, ◌∙◌, add-zero, zero-add}
use Rattle.std.specs.Int.{w64, to_le_bytes, from_le_bytes, from_be_bytes, swap_bytes}
use Rattle.std.proofs.lemmas.Nat.{le_bytes_8}
use Rattle.tile_cache.specs.declared.eights.TheConstants.{EIGHTS}
use Rattle.tile_cache.specs.Bitplanes.{bit_of, pixel_of, value_of, packed, eight}

-- numbers of equal pixels are equal
pub packed_ext : (f g : ℕ → ℕ) → ((k : ℕ) → k < 8 → f k ≡ g k) → packed f ≡ packed g
unfolding packed
packed_ext f g same =
    let e0 = same 0 (omega arith) in
    let e1 = same 1 (omega arith) in
    let e2 = same 2 (omega arith) in
    let e3 = same 3 (omega arith) in
    let e4 = same 4 (omega arith) in
    let e5 = same 5 (omega arith) in
    let e6 = same 6 (omega arith) in
    let e7 = same 7 (omega arith) in
    omega (arith, e0, e1, e2, e3, e4, e5, e6, e7)

-- the bytes of a number are its pixels
eight_small : (f : ℕ → ℕ) → ((k : ℕ) → k < 8 → f k < 256) → (i : ℕ) → slice_index (eight f) i < 256
eight_small f h zero = h 0 (omega arith)
eight_small f h (suc zero) = h 1 (omega arith)
eight_small f h (suc (suc zero)) = h 2 (omega arith)
eight_small f h (suc (suc (suc zero))) = h 3 (omega arith)
eight_small f h (suc (suc (suc (suc zero)))) = h 4 (omega arith)
eight_small f h (suc (suc (suc (suc (suc zero))))) = h 5 (omega arith)
eight_small f h (suc (suc (suc (suc (suc (suc zero)))))) = h 6 (omega arith)
eight_small f h (suc (suc (suc (suc (suc (suc (suc zero))))))) = h 7 (omega arith)
eight_small f h (suc (suc (suc (suc (suc (suc (suc (suc i)))))))) = omega arith

number_of_eight : (f : ℕ → ℕ) → packed f ≡ from_le_bytes w64 (eight f)
unfolding packed
number_of_eight f = omega arith

pub bytes_of_packed : (f : ℕ → ℕ) (n : ℕ) → ((k : ℕ) → k < 8 → f k < 256) → n ≡ packed f → to_le_bytes w64 n ≡ eight f
bytes_of_packed f n small is = le_bytes_8 (eight f) n refl (eight_small f small) (is ∙ number_of_eight f)

-- turned over
number_turned : (f : ℕ → ℕ) → from_be_bytes w64 (eight f) ≡ packed (λ k. f (7 - k))
unfolding packed
number_turned f = omega arith

pub packed_turned : (f : ℕ → ℕ) (n : ℕ) → ((k : ℕ) → k < 8 → f k < 256) → n ≡ packed f → swap_bytes w64 n ≡ packed (λ k. f (7 - k))
packed_turned f n small is = ap (λ bs. from_be_bytes w64 bs) (bytes_of_packed f n small is) ∙ number_turned f

-- the table has the bits of each byte
eights_from : ℕ → ℕ → List ℕ
eights_from k zero = []
eights_from k (suc n) = packed (λ j. bit_of k (7 - j)) ∷ eights_from (suc k) n

at_place : (k n i : ℕ) → i < n → slice_index (eights_from k n) i ≡ packed (λ j. bit_of (k + i) (7 - j))
unfolding packed eights_from
at_place k zero i h = absurd (omega arith)
at_place k (suc n) zero h = rw add-zero refl
at_place k (suc n) (suc i) h =
    let place : k + suc i ≡ suc k + i = omega arith in
    rw place (at_place (suc k) n i (omega arith))

table_agrees : EIGHTS ≡ eights_from 0 256
unfolding packed eights_from
table_agrees = refl

pub table_at : (byte : ℕ) → byte < 256 → slice_index EIGHTS byte ≡ packed (λ k. bit_of byte (7 - k))
table_at byte h =
    ap (λ t. slice_index t byte) table_agrees ∙ at_place 0 256 byte h ∙ ap (λ n. packed (λ k. bit_of n (7 - k))) (zero-add byte)

pub bits_small : (byte : ℕ) → packed (λ k. bit_of byte (7 - k)) ≤ 0x101010101010101
unfolding packed
bits_small byte = omega arith

-- a word's pixels are the bits of its bytes
low_bit : (word j : ℕ) → j < 8 → bit_of (word % 256) j ≡ bit_of word j
low_bit word zero h = omega arith
low_bit word (suc zero) h = omega arith
low_bit word (suc (suc zero)) h = omega arith
low_bit word (suc (suc (suc zero))) h = omega arith
low_bit word (suc (suc (suc (suc zero)))) h = omega arith
low_bit word (suc (suc (suc (suc (suc zero))))) h = omega arith
low_bit word (suc (suc (suc (suc (suc (suc zero)))))) h = omega arith
low_bit word (suc (suc (suc (suc (suc (suc (suc zero))))))) h = omega arith
low_bit word (suc (suc (suc (suc (suc (suc (suc (suc j)))))))) h = absurd (omega arith)

high_bit : (word k : ℕ) → k < 8 → bit_of (word / 256) (7 - k) ≡ bit_of word (15 - k)
high_bit word zero h = omega arith
high_bit word (suc zero) h = omega arith
high_bit word (suc (suc zero)) h = omega arith
high_bit word (suc (suc (suc zero))) h = omega arith
high_bit word (suc (suc (suc (suc zero)))) h = omega arith
high_bit word (suc (suc (suc (suc (suc zero))))) h = omega arith
high_bit word (suc (suc (suc (suc (suc (suc zero)))))) h = omega arith
high_bit word (suc (suc (suc (suc (suc (suc (suc zero))))))) h = omega arith
high_bit word (suc (suc (suc (suc (suc (suc (suc (suc k)))))))) h = absurd (omega arith)

sum_of_two : (f g : ℕ → ℕ) → packed f + 2 * packed g ≡ packed (λ k. f k + 2 * g k)
unfolding packed
sum_of_two f g = omega arith

pub pixels_are :
    (word : ℕ) → packed (λ k. bit_of (word % 256) (7 - k)) + 2 * packed (λ k. bit_of (word / 256) (7 - k)) ≡ packed (pixel_of word)
unfolding pixel_of
pixels_are word =
    sum_of_two (λ k. bit_of (word % 256) (7 - k)) (λ k. bit_of (word / 256) (7 - k))
    ∙ packed_ext (λ k. bit_of (word % 256) (7 - k) + 2 * bit_of (word / 256) (7 - k)) (λ k. bit_of word (7 - k) + 2 * bit_of word (15 - k))
    (λ k h. let low = low_bit word (7 - k) (omega arith) in let high = high_bit word k h in omega (arith, low, high))

pub pixel_small : (word k : ℕ) → pixel_of word k < 4
unfolding pixel_of
pixel_small word k = omega arith

pub sum_of_four : (f g : ℕ → ℕ) → packed f + 4 * packed g ≡ packed (λ k. f k + 4 * g k)
unfolding packed
sum_of_four f g = omega arith

-- a value is a byte
pub value_below : (vram : List ℕ) (word depth k : ℕ) → value_of vram word depth k < 256
unfolding value_of
value_below vram word depth k =
    let a = pixel_small (slice_index vram word) k in
    let b = pixel_small (slice_index vram ((word + 8) % 32768)) k in
    let c = pixel_small (slice_index vram ((word + 16) % 32768)) k in
    let d = pixel_small (slice_index vram ((word + 24) % 32768)) k in
    grind arith
