-- The hexadecimal digits of bytes, read back: they spell those bytes.
use Rattle.std.proofs.Common.{◌≡◌, ℕ, ◌+◌, ◌*◌, ◌/◌, ◌%◌, ◌-◌, ◌<◌, ◌≤◌, List, [], ◌∷◌, ◌++◌, length, All, Some, refl, ap, sym, ◌∙◌, ⊎_elim, append-nil, append_assoc, arith}
use Rattle.std.proofs.lemmas.Bool.{cases_lt, cond-true, cond-false, and_from, and_right, lt-ltb, le-ltb, le-leb, lt-leb}
use Rattle.std.proofs.lemmas.List.Elements.{All-head, All-tail}
use Rattle.frame_sums.specs.Text.{hex_digit, hex_text}
use Rattle.frame_sums.specs.SumsFile.{digit_value, byte_value, and_more, bytes_after}
use Rattle.frame_sums_laws.proofs.Printed.{IsByte}

-- `0` to `9` are read as such
low_value : (n : ℕ) → n < 10 → digit_value (48 + n) ≡ Some n
low_value n low =
    let value : 48 + n - 48 ≡ n = omega arith in
    cond-true _ _ _ (and_from _ _ (le-leb 48 (48 + n) (omega arith)) (le-leb (48 + n) 57 (omega (arith, low)))) ∙ ap (λ v. Some v) value

-- and `a` to `f` as 10 to 15
high_value : (n : ℕ) → 10 ≤ n → n < 16 → digit_value (87 + n) ≡ Some n
high_value n high small =
    let value : 87 + n - 87 ≡ n = omega arith in
    cond-false _ _ _ (and_right _ _ (lt-leb (87 + n) 57 (omega (arith, high))))
    ∙ cond-true _ _ _ (and_from _ _ (le-leb 97 (87 + n) (omega (arith, high))) (le-leb (87 + n) 102 (omega (arith, small))))
    ∙ ap (λ v. Some v) value

-- so each digit is read as the number that it was written for
digit_back : (n : ℕ) → n < 16 → digit_value (hex_digit n) ≡ Some n
digit_back n small =
    ⊎_elim
    (λ low. ap (λ d. digit_value d) (cond-true _ (48 + n) (87 + n) (lt-ltb n 10 low)) ∙ low_value n low)
    (λ high. ap (λ d. digit_value d) (cond-false _ (48 + n) (87 + n) (le-ltb n 10 high)) ∙ high_value n high small)
    (cases_lt n 10)

-- two digits for each byte
pub hex_length : (bytes : List ℕ) → length (hex_text bytes) ≡ 2 * length bytes
hex_length [] = refl
hex_length (byte ∷ rest) = omega (arith, hex_length rest)

-- the digits spell the bytes that they were written for
pub hex_back : (bytes before : List ℕ) → All IsByte bytes → bytes_after before (hex_text bytes) ≡ Some (before ++ bytes)
hex_back [] before small = ap (λ l. Some l) (sym (append-nil before))
hex_back (byte ∷ rest) before small =
    let is_byte : byte < 256 = All-head IsByte byte rest small in
    let high : digit_value (hex_digit (byte / 16)) ≡ Some (byte / 16) = digit_back (byte / 16) (omega (arith, is_byte)) in
    let low : digit_value (hex_digit (byte % 16)) ≡ Some (byte % 16) = digit_back (byte % 16) (omega arith) in
    let whole : 16 * (byte / 16) + byte % 16 ≡ byte = omega arith in
    ap (λ d. and_more (byte_value d (digit_value (hex_digit (byte % 16)))) (λ b. bytes_after (before ++ b ∷ []) (hex_text rest))) high
    ∙ ap (λ d. and_more (byte_value (Some (byte / 16)) d) (λ b. bytes_after (before ++ b ∷ []) (hex_text rest))) low
    ∙ ap (λ b. bytes_after (before ++ b ∷ []) (hex_text rest)) whole
    ∙ hex_back rest (before ++ byte ∷ []) (All-tail IsByte byte rest small)
    ∙ ap (λ l. Some l) (append_assoc before (byte ∷ []) rest)
