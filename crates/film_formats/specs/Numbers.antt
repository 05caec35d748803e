-- Numbers as bytes.
use Rattle.std.specs.Prelude.{ℕ, ◌/◌, ◌%◌, List, [], ◌∷◌}

-- the low 16 bits of a number, low byte first
abbrev pub little2 : ℕ → List ℕ
little2 n = n % 256 ∷ (n / 256 % 256 ∷ [])

-- the low 32 bits of a number, low byte first
abbrev pub little4 : ℕ → List ℕ
little4 n = n % 256 ∷ (n / 256 % 256 ∷ (n / 65536 % 256 ∷ (n / 16777216 % 256 ∷ [])))

-- the low 64 bits of a number, low byte first
abbrev pub little8 : ℕ → List ℕ
little8 n =
    n % 256 ∷ (n / 256 % 256 ∷ (n / 65536 % 256 ∷ (n / 16777216 % 256
    ∷ (n / 4294967296 % 256 ∷ (n / 1099511627776 % 256 ∷ (n / 281474976710656 % 256 ∷ (n / 72057594037927936 % 256 ∷ [])))))))

-- the low 32 bits of a number, high byte first
abbrev pub big4 : ℕ → List ℕ
big4 n = n / 16777216 % 256 ∷ (n / 65536 % 256 ∷ (n / 256 % 256 ∷ (n % 256 ∷ [])))
