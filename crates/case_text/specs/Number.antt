-- Numbers in hexadecimal digits.
use Rattle.std.specs.Prelude.{ℕ, ◌≡◌, ◌+◌, ◌<◌, ◌≤◌, ◌^◌, List, length, Option, Some, None, Result, Ok, Err}
use Rattle.std.specs.List.{splice}
use Rattle.std.specs.Str.Parse.{IsNumeral, digits_value, without_leading_plus}

-- the number that digits of either case stand for, behind a plus if there is one
abbrev pub value_of : List ℕ → ℕ
value_of text = digits_value 16 (without_leading_plus text)

-- the text has a digit or more and nothing else, behind a plus if there is one, for a number of 64 bits
abbrev pub IsHexadecimal : List ℕ → Type 0
IsHexadecimal text = IsNumeral 16 (without_leading_plus text) × (value_of text < 2 ^ 64)

-- what is read from a text for a type: the number as the type's conversion gives it, and none where there
-- is no such number or the type doesn't hold it
abbrev pub ReadsHexadecimal : {T E : Type 0} → (ℕ → Result T E → Type 0) → List ℕ → Option T → Type 0
ReadsHexadecimal gives text (Some x) = IsHexadecimal text × gives (value_of text) (Ok x)
ReadsHexadecimal gives text None = IsHexadecimal text → ∥ ((e : _) × gives (value_of text) (Err e)) ∥₁

-- there is room for more bytes in place of as many at an offset
abbrev pub HasRoom : List ℕ → ℕ → List ℕ → Type 0
HasRoom bytes offset more = offset + length more ≤ length bytes

-- the bytes after more took the place of as many at an offset
abbrev pub Puts : List ℕ → ℕ → List ℕ → List ℕ → Type 0
Puts bytes offset after more = HasRoom bytes offset more × (after ≡ splice bytes offset (offset + length more) more)
