-- A line of two sums, read back: behind its own name are the two sums, and it is not read as the line of all frames.
use Rattle.std.proofs.Common.{◌≡◌, ℕ, ◌+◌, ◌^◌, ◌<◌, Bool, true, false, ◌&&◌, nat_eq, List, [], ◌∷◌, ◌++◌, length, take, drop, slice_index, slice_range, decimal, codes, All, Option, Some, None, refl, ap, sym, ◌∙◌, length-append, append_assoc, take_at, drop_at, arith}
use Rattle.std.specs.Prelude.{if◌then◌else◌}
use Rattle.std.specs.Str.{bytes_eq}
use Rattle.std.proofs.lemmas.Bool.{cond-true, cond-false, and_left, and_right, eq-eqb, ne_eqb}
use Rattle.std.proofs.lemmas.List.{get_or_at}
use Rattle.std.proofs.lemmas.List.Elements.{All-append, All-cons, All-head}
use Rattle.std.proofs.lemmas.Slice.Eq.{bytes_eq-Decides}
use Rattle.sha2.specs.Sha256.{sha256}
use Rattle.sha2.proofs.Facts256.{length-sha256}
use Rattle.frame_sums.specs.declared.file.SumPair.{SumPair}
use Rattle.frame_sums.specs.Text.{hex_text, line_text}
use Rattle.frame_sums.specs.SumsFile.{bytes_after, pair_by, pair_behind}
use Rattle.frame_sums_laws.proofs.Printed.{IsPrinted, IsDigit, IsByte, decimal_digits, hex_printed, sum_bytes}
use Rattle.frame_sums_laws.proofs.HexBack.{hex_length, hex_back}

-- what a line has behind its name
abbrev pub behind_of : (picture sound : List ℕ) → List ℕ
behind_of picture sound = 44 ∷ (hex_text picture ++ 44 ∷ hex_text sound)

-- a line without its line feed
abbrev pub body_of : (name picture sound : List ℕ) → List ℕ
body_of name picture sound = name ++ behind_of picture sound

pub line_is_body : (name picture sound : List ℕ) → line_text name picture sound ≡ body_of name picture sound ++ 10 ∷ []
unfolding line_text
line_is_body name picture sound =
    sym (
    append_assoc name (behind_of picture sound) (10 ∷ [])
    ∙ ap (λ l. name ++ 44 ∷ l) (append_assoc (hex_text picture) (44 ∷ hex_text sound) (10 ∷ []))
    )

pub body_printed : (name picture sound : List ℕ) → All IsPrinted name → All IsPrinted (body_of name picture sound)
body_printed name picture sound printed =
    All-append IsPrinted name (behind_of picture sound) printed
    (All-cons IsPrinted 44 (hex_text picture ++ 44 ∷ hex_text sound) (omega arith)
    (All-append IsPrinted (hex_text picture) (44 ∷ hex_text sound) (hex_printed picture)
    (All-cons IsPrinted 44 (hex_text sound) (omega arith) (hex_printed sound))))

-- the two sums of a line, by its length, the beginning of it, and what is behind a name
abbrev read_behind : (size same : Bool) → List ℕ → Option SumPair
read_behind size same behind =
    if size && (same && (nat_eq (slice_index behind 0) 44 && nat_eq (slice_index behind 65) 44))
    then pair_by (bytes_after [] (slice_range behind 1 65)) (bytes_after [] (drop 66 behind)) else None

pair_is : (name line : List ℕ)
    → pair_behind name line ≡ read_behind (nat_eq (length line) (length name + 130)) (bytes_eq (take (length name) line) name) (drop (length name) line)
unfolding pair_behind
pair_is name line = refl

-- a line that does not begin with the name has none
read_other : (size same : Bool) (behind : List ℕ) → same ≡ false → read_behind size same behind ≡ None
read_other size same behind other = cond-false _ _ _ (and_right size _ (and_left same _ other))

module _ (picture sound : List ℕ) (picture_size : length picture ≡ 32) (sound_size : length sound ≡ 32) where
  abbrev Behind : List ℕ
  Behind = behind_of picture sound

  picture_digits : length (hex_text picture) ≡ 64
  picture_digits = omega (arith, hex_length picture, picture_size)

  sound_digits : length (hex_text sound) ≡ 64
  sound_digits = omega (arith, hex_length sound, sound_size)

  -- the second comma is behind 64 digits
  second_comma : slice_index Behind 65 ≡ 44
  second_comma = get_or_at (hex_text picture) 44 (hex_text sound) 0 64 picture_digits

  first_digits : slice_range Behind 1 65 ≡ hex_text picture
  first_digits = take_at (hex_text picture) (44 ∷ hex_text sound) 64 picture_digits

  last_digits : drop 66 Behind ≡ hex_text sound
  last_digits =
      let place : length (hex_text picture ++ 44 ∷ []) ≡ 65 = omega (arith, length-append (hex_text picture) (44 ∷ []), picture_digits) in
      ap (λ l. drop 65 l) (sym (append_assoc (hex_text picture) (44 ∷ []) (hex_text sound)))
      ∙ drop_at (hex_text picture ++ 44 ∷ []) (hex_text sound) 65 place

  behind_size : length Behind ≡ 130
  behind_size = omega (arith, length-append (hex_text picture) (44 ∷ hex_text sound), picture_digits, sound_digits)

  module _ (picture_bytes : All IsByte picture) (sound_bytes : All IsByte sound) where
    read_back : read_behind true true Behind ≡ Some (record { picture = picture; sound = sound })
    read_back =
        cond-true _ _ _ (eq-eqb (slice_index Behind 65) 44 second_comma)
        ∙ ap (λ p. pair_by p (bytes_after [] (drop 66 Behind))) (ap (λ l. bytes_after [] l) first_digits ∙ hex_back picture [] picture_bytes)
        ∙ ap (λ s. pair_by (Some picture) s) (ap (λ l. bytes_after [] l) last_digits ∙ hex_back sound [] sound_bytes)

    -- behind a line's own name are its two sums
    pub pair_back : (name : List ℕ) → pair_behind name (body_of name picture sound) ≡ Some (record { picture = picture; sound = sound })
    pair_back name =
        let size : length (body_of name picture sound) ≡ length name + 130 = omega (arith, length-append name Behind, behind_size) in
        let begins : take (length name) (body_of name picture sound) ≡ name = take_at name Behind (length name) refl in
        pair_is name (body_of name picture sound)
        ∙ ap (λ b. read_behind b (bytes_eq (take (length name) (body_of name picture sound)) name) (drop (length name) (body_of name picture sound))) (eq-eqb _ _ size)
        ∙ ap (λ b. read_behind true b (drop (length name) (body_of name picture sound))) ((bytes_eq-Decides (take (length name) (body_of name picture sound)) name).1 begins)
        ∙ ap (λ l. read_behind true true l) (drop_at name Behind (length name) refl)
        ∙ read_back

-- behind the name of a line of SHA-256 sums are these sums
pub sums_back : (name video audio : List ℕ)
    → pair_behind name (body_of name (sha256 video) (sha256 audio)) ≡ Some (record { picture = sha256 video; sound = sha256 audio })
sums_back name video audio =
    pair_back (sha256 video) (sha256 audio) (length-sha256 video) (length-sha256 audio) (sum_bytes video) (sum_bytes audio) name

-- what begins with a digit does not begin with `all`
digit_first : (digits rest : List ℕ) → 0 < length digits → All IsDigit digits → bytes_eq (take 3 (digits ++ rest)) (codes "all") ≡ false
digit_first [] rest some are = absurd (omega (arith, some))
digit_first (d ∷ digits) rest some are =
    let digit : IsDigit d = All-head IsDigit d digits are in
    and_left (nat_eq d 97) _ (ne_eqb d 97 (λ e. absurd (omega (arith, digit.1, e))))

-- so the line of a frame is not read as that of all frames
pub frame_not_all : (frame : ℕ) → frame < 2 ^ 64 → (picture sound : List ℕ) → pair_behind (codes "all") (body_of (decimal frame) picture sound) ≡ None
frame_not_all frame small picture sound =
    let digits = decimal_digits frame small in
    let line = body_of (decimal frame) picture sound in
    pair_is (codes "all") line
    ∙ read_other (nat_eq (length line) 133) (bytes_eq (take 3 line) (codes "all")) (drop 3 line)
    (digit_first (decimal frame) (behind_of picture sound) digits.0 digits.1)
