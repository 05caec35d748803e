-- Hexadecimal numbers as they stand in a trace: capital digits, as many as the number has.
use Rattle.std.specs.Prelude.{ℕ, ◌+◌, ◌/◌, ◌%◌, List, [], ◌∷◌, nat_lt, if◌then◌else◌}

-- one capital digit of a number below 16
abbrev pub hex_digit : ℕ → ℕ
hex_digit n = if nat_lt n 10 then 48 + n else 55 + n

-- the two digits of a byte
abbrev pub hex2 : ℕ → List ℕ
hex2 byte = hex_digit (byte / 16) ∷ (hex_digit (byte % 16) ∷ [])

-- the four digits of a word
abbrev pub hex4 : ℕ → List ℕ
hex4 word =
    hex_digit (word / 4096 % 16) ∷ (hex_digit (word / 256 % 16) ∷ (hex_digit (word / 16 % 16) ∷ (hex_digit (word % 16) ∷ [])))

-- the six digits of an address of 24 bits
abbrev pub hex6 : ℕ → List ℕ
hex6 address =
    hex_digit (address / 1048576 % 16) ∷ (hex_digit (address / 65536 % 16) ∷ (hex_digit (address / 4096 % 16)
    ∷ (hex_digit (address / 256 % 16) ∷ (hex_digit (address / 16 % 16) ∷ (hex_digit (address % 16) ∷ [])))))
