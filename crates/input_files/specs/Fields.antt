-- A line of a script that holds a span. This project's own format.
use Rattle.std.specs.Prelude.{ℕ, ◌+◌, ◌-◌, ◌*◌, Bool, not, ◌&&◌, ◌||◌, nat_le, nat_eq, if◌then◌else◌, List, [], ◌∷◌, length, take, drop, position, Option, Some, None, unwrap_or}
use Rattle.std.specs.Char.{is_ascii_digit}
use Rattle.snes_defs.specs.declared.script.Span.{Span}

-- the number that these decimal digits spell where `before` was read in front of them, or none where one is no digit
abbrev pub number_after : ℕ → List ℕ → Option ℕ
number_after before [] = Some before
number_after before (digit ∷ digits) =
    if is_ascii_digit digit then number_after (10 * before + (digit - 48)) digits else None

-- the number that decimal digits spell
abbrev pub number_of : List ℕ → Option ℕ
number_of digits = number_after 0 digits

-- a count has 1 to 5 of them
unfoldable pub count_of : List ℕ → Option ℕ
count_of digits = if nat_le 1 (length digits) && nat_le (length digits) 5 then number_of digits else None

-- a hexadecimal digit, in either case, and what it stands for
unfoldable pub is_hex_digit : ℕ → Bool
is_hex_digit byte =
    (nat_le 48 byte && nat_le byte 57) || ((nat_le 65 byte && nat_le byte 70) || (nat_le 97 byte && nat_le byte 102))

unfoldable pub hex_value : ℕ → ℕ
hex_value byte =
    if nat_le 48 byte && nat_le byte 57 then byte - 48
    else (if nat_le 65 byte && nat_le byte 70 then byte - 55
    else (if nat_le 97 byte && nat_le byte 102 then byte - 87
    else 0))

-- a pad's word: four hexadecimal digits, whose low four bits count as 0
abbrev pub pad_of : List ℕ → Option ℕ
pad_of (a ∷ (b ∷ (c ∷ (d ∷ [])))) =
    if is_hex_digit a && (is_hex_digit b && (is_hex_digit c && is_hex_digit d))
    then Some (4096 * hex_value a + 256 * hex_value b + 16 * hex_value c)
    else None
pad_of _ = None

-- where the first byte stands that passes a test, or the length where none does
abbrev pub first_place : (ℕ → Bool) → List ℕ → ℕ
first_place test text = unwrap_or (position test text) (length text)

-- the bytes up to the first space, and those behind the spaces that follow
unfoldable pub word_of : List ℕ → List ℕ
word_of text = take (first_place (λ b. nat_eq b 32) text) text

abbrev pub behind_word : List ℕ → List ℕ
behind_word text = drop (first_place (λ b. nat_eq b 32) text) text

unfoldable pub behind : List ℕ → List ℕ
behind text = drop (first_place (λ b. not (nat_eq b 32)) (behind_word text)) (behind_word text)

-- the span of three fields, where each is in its form
abbrev pub joined : Option ℕ → Option ℕ → Option ℕ → Option Span
joined (Some count) (Some pad1) (Some pad2) = Some (record { count = count; pad1 = pad1; pad2 = pad2 })
joined _ _ _ = None

-- the span of a line COUNT PAD1 PAD2, with one or more spaces between and none elsewhere
unfoldable pub span_of : List ℕ → Option Span
span_of line = joined (count_of (word_of line)) (pad_of (word_of (behind line))) (pad_of (behind (behind line)))
