-- Bytes that a line may have: none of them is a line feed or a carriage return. Digits, names and sums have no others.
use Rattle.std.proofs.Common.{ℕ, zero, suc, ◌+◌, ◌/◌, ◌%◌, ◌^◌, ◌<◌, ◌≤◌, ◌≡◌, Bool, true, ◌&&◌, nat_lt, nat_le, List, slice_index, [], ◌∷◌, length, decimal, All, mod-lt, arith}
use Rattle.std.specs.Int.{bytes_high_first, byte_at}
use Rattle.std.proofs.lemmas.Bool.{and_parts, leb-true, cond_both}
use Rattle.std.proofs.lemmas.Fmt.{decimal_by_steps}
use Rattle.std.proofs.lemmas.List.{length_push}
use Rattle.std.proofs.lemmas.List.Elements.{All-nil, All-cons, All-append, All-push, All-weaker}
use Rattle.sha2.specs.Sha256.{sha256, initial_hash_256, final_hash, digest_bytes}
use Rattle.frame_sums.specs.Text.{hex_digit, hex_text}

-- from the space on
abbrev pub IsPrinted : ℕ → Type 0
IsPrinted c = 32 ≤ c

abbrev pub IsDigit : ℕ → Type 0
IsDigit c = (48 ≤ c) × (c ≤ 57)

abbrev pub IsByte : ℕ → Type 0
IsByte b = b < 256

-- the test of it, for a text that is written out
abbrev pub are_printed : List ℕ → Bool
are_printed [] = true
are_printed (c ∷ cs) = nat_le 32 c && are_printed cs

pub printed_by_test : (cs : List ℕ) → are_printed cs ≡ true → All IsPrinted cs
printed_by_test [] test = All-nil IsPrinted
printed_by_test (c ∷ cs) test =
    let parts = and_parts (nat_le 32 c) (are_printed cs) test in
    All-cons IsPrinted c cs (leb-true 32 c parts.0) (printed_by_test cs parts.1)

-- a decimal number has digits only, and at least one
pub decimal_digits : (n : ℕ) → n < 2 ^ 64 → (0 < length (decimal n)) × All IsDigit (decimal n)
decimal_digits n small =
    decimal_by_steps
    (λ k ds. (0 < length ds) × All IsDigit ds)
    (λ k one. (omega arith, All-cons IsDigit (48 + k) [] (omega arith, omega (arith, one)) (All-nil IsDigit)))
    (λ k ds many had. (
      omega (arith, length_push ds (48 + k % 10)),
      All-push IsDigit ds (48 + k % 10) had.1 (omega arith, omega arith),
    ))
    n small

pub decimal_printed : (n : ℕ) → n < 2 ^ 64 → All IsPrinted (decimal n)
decimal_printed n small = All-weaker IsDigit IsPrinted (λ c digit. omega (arith, digit.0)) (decimal n) (decimal_digits n small).1

-- a hexadecimal digit is one of `0` to `9` or from `a` on
hex_digit_printed : (n : ℕ) → IsPrinted (hex_digit n)
hex_digit_printed n = cond_both (nat_lt n 10) (48 + n) (87 + n) IsPrinted (λ low. omega arith) (λ high. omega arith)

pub hex_printed : (bytes : List ℕ) → All IsPrinted (hex_text bytes)
hex_printed [] = All-nil IsPrinted
hex_printed (byte ∷ rest) =
    All-cons IsPrinted (hex_digit (byte / 16)) (hex_digit (byte % 16) ∷ hex_text rest) (hex_digit_printed (byte / 16))
    (All-cons IsPrinted (hex_digit (byte % 16)) (hex_text rest) (hex_digit_printed (byte % 16)) (hex_printed rest))

-- a number's bytes are bytes, and so are those of a sum
byte_at_small : (k n : ℕ) → IsByte (byte_at k n)
byte_at_small zero n = mod-lt n (omega arith)
byte_at_small (suc k) n = mod-lt (n / 256 ^ suc k) (omega arith)

bytes_small : (k n : ℕ) → All IsByte (bytes_high_first k n)
bytes_small zero n = All-nil IsByte
bytes_small (suc k) n = All-cons IsByte (byte_at k n) (bytes_high_first k n) (byte_at_small k n) (bytes_small k n)

digest_small : (h : List ℕ) (n : ℕ) → All IsByte (digest_bytes h n)
unfolding digest_bytes
digest_small h zero = All-nil IsByte
digest_small h (suc n) = All-append IsByte (digest_bytes h n) (bytes_high_first 4 (slice_index h n)) (digest_small h n) (bytes_small 4 (slice_index h n))

pub sum_bytes : (message : List ℕ) → All IsByte (sha256 message)
unfolding sha256
sum_bytes message = digest_small (final_hash initial_hash_256 message) 8
