-- How the words of VRAM hold the pixels of a tile's line (bit planes: Super Nintendo Development Manual), and
-- when a cache of decoded lines is in step with VRAM.
use Rattle.std.specs.Prelude.{◌≡◌, ℕ, ◌+◌, ◌-◌, ◌*◌, ◌/◌, ◌%◌, ◌^◌, ◌<◌, ◌==◌, List, [], ◌∷◌, slice_index, if◌then◌else◌}

-- bit k of a number
abbrev pub bit_of : ℕ → ℕ → ℕ
bit_of n k = n / 2 ^ k % 2

-- pixel k, from the left, of one word: plane 0 in the low byte and plane 1 in the high one, bit 7 at the left
unfoldable pub pixel_of : ℕ → ℕ → ℕ
pixel_of word k = bit_of word (7 - k) + 2 * bit_of word (15 - k)

-- pixel k of a line of 2, 4 or 8 bits: two planes a word, each further pair 8 words on, modulo 8000h
abbrev pub planes_of : (ℕ → ℕ → ℕ) → ℕ → ℕ → ℕ → ℕ
planes_of pair word depth k =
    pair word k
    + (if depth == 2 then 0 else 4 * pair ((word + 8) % 32768) k)
    + (if depth == 8 then 16 * pair ((word + 16) % 32768) k + 64 * pair ((word + 24) % 32768) k else 0)

-- that pixel, decoded from VRAM
unfoldable pub value_of : List ℕ → ℕ → ℕ → ℕ → ℕ
value_of vram word depth k = planes_of (λ w j. pixel_of (slice_index vram w) j) word depth k

-- eight pixels as one number, the left one in its lowest byte
unfoldable pub packed : (ℕ → ℕ) → ℕ
packed f =
    f 0 + 0x100 * f 1 + 0x10000 * f 2 + 0x1000000 * f 3 + 0x100000000 * f 4 + 0x10000000000 * f 5 + 0x1000000000000 * f 6
    + 0x100000000000000 * f 7

-- the cache is in step with VRAM at a word: it has the word's pixels
abbrev pub IsInStepAt : List ℕ → List ℕ → ℕ → Type 0
IsInStepAt cache vram word = slice_index cache word ≡ packed (pixel_of (slice_index vram word))

-- at every word
pub record IsInStep (cache vram : List ℕ) : Type 0 where
  pub at : (word : ℕ) → word < 32768 → IsInStepAt cache vram word

-- the eight pixels of a line
abbrev pub eight : (ℕ → ℕ) → List ℕ
eight f = f 0 ∷ f 1 ∷ f 2 ∷ f 3 ∷ f 4 ∷ f 5 ∷ f 6 ∷ f 7 ∷ []
