-- A text of a file in a line: nothing in it ends the line or moves a terminal's cursor.
use Rattle.std.specs.Prelude.{ℕ, ◌+◌, ◌-◌, ◌/◌, ◌%◌, Bool, false, ◌&&◌, ◌||◌, not, ◌==◌, nat_le, nat_lt, List, [], ◌∷◌, Option, Some, None, if◌then◌else◌}
use Rattle.std.specs.List.{flat_map, list_any}
use Rattle.std.specs.Str.{chars, is_utf8}

-- a character that is not shown: controls (7F to 9F), marks of direction, separators of lines
abbrev pub hides : ℕ → Bool
hides character =
    (nat_le 0x7F character && nat_le character 0x9F) || (nat_le 0x200E character && nat_le character 0x200F)
    || (nat_le 0x2028 character && nat_le character 0x202E) || (nat_le 0x2066 character && nat_le character 0x2069)

-- a text that is UTF-8, with no such character
abbrev pub if_utf8 : List ℕ → Option (List ℕ)
if_utf8 text = if is_utf8 text then Some text else None

abbrev pub shows_all : Option (List ℕ) → Bool
shows_all None = false
shows_all (Some text) = not (list_any hides (chars text))

unfoldable pub is_readable : List ℕ → Bool
is_readable text = shows_all (if_utf8 text)

abbrev pub hex_digit : ℕ → ℕ
hex_digit number = if nat_lt number 10 then 48 + number else 97 + (number - 10)

-- a byte: a backslash twice; a printable character, and any byte from 80 on of a readable text, as it is; any other
-- byte as \x and two digits
abbrev pub shown_byte : Bool → ℕ → List ℕ
shown_byte readable byte =
    if byte == 92 then 92 ∷ (92 ∷ [])
    else (if (nat_le 0x20 byte && nat_lt byte 0x7F) || (readable && nat_le 0x80 byte) then byte ∷ []
    else 92 ∷ (120 ∷ (hex_digit (byte / 16) ∷ (hex_digit (byte % 16) ∷ []))))

unfoldable pub shown : List ℕ → List ℕ
shown text = flat_map (shown_byte (is_readable text)) text
