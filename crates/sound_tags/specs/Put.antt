-- THE TEXT FORM OF ID666 AS IT IS WRITTEN: which texts a field takes, and the bytes that it then has.
use Rattle.std.specs.Prelude.{ℕ, ◌+◌, ◌-◌, Bool, ◌&&◌, ◌||◌, not, ◌==◌, nat_le, nat_lt, List, [], ◌∷◌, ◌++◌, length, take, drop, replicate, Option, Some, None, if◌then◌else◌}
use Rattle.std.specs.List.{list_all}
use Rattle.std.specs.Char.{is_ascii_digit}
use Rattle.sound_tags.specs.declared.field.Form.TheVariants.{Text}
use Rattle.sound_tags.specs.declared.field.Field.{Field}
use Rattle.sound_tags.specs.declared.area.FieldRefused.{FieldRefused}
use Rattle.sound_tags.specs.declared.area.FieldRefused.TheVariants.{TooLong, NotPrintable, NotANumber}
use Rattle.sound_tags.specs.Fields.{offset_of, size_of, is_number}

-- a character that every player shows in the same way
abbrev pub is_printable : ℕ → Bool
is_printable byte = nat_le 0x20 byte && nat_le byte 0x7E

-- WHY A TEXT IS REFUSED. A number that is empty or has another character than a digit is none; then its digits count
unfoldable pub refusal_of : Field → List ℕ → Option FieldRefused
refusal_of field text =
    if is_number field then
    (if (length text == 0) || not (list_all is_ascii_digit text) then Some NotANumber
    else (if nat_lt (size_of Text field) (length text) then Some TooLong else None))
    else
    (if nat_lt (size_of Text field) (length text) then Some TooLong
    else (if not (list_all is_printable text) then Some NotPrintable else None))

-- a field of so many bytes: a text is followed by zeros, digits follow the character 0
unfoldable pub text_bytes : ℕ → List ℕ → List ℕ
text_bytes size text = text ++ replicate (size - length text) 0

unfoldable pub number_bytes : ℕ → List ℕ → List ℕ
number_bytes size digits = replicate (size - length digits) 48 ++ digits

abbrev pub bytes_of : Bool → ℕ → List ℕ → List ℕ
bytes_of number size text = if number then number_bytes size text else text_bytes size text

-- a list with these bytes at this place
abbrev pub put_at : ℕ → List ℕ → List ℕ → List ℕ
put_at at bytes list = take at list ++ (bytes ++ drop (at + length bytes) list)

-- THE 210 BYTES OF THE TAGS, from 2E to FF in a file: none are set, or one more
unfoldable pub no_tags : List ℕ
no_tags = replicate 210 0

unfoldable pub with_field : List ℕ → Field → List ℕ → List ℕ
with_field tags field text = put_at (offset_of Text field - 0x2E) (bytes_of (is_number field) (size_of Text field) text) tags

-- A FILE WITH THESE TAGS: the byte at 23 is 26 (the file has tags), and the tags are at 2E
unfoldable pub with_tags : List ℕ → List ℕ → List ℕ
with_tags tags file = put_at 0x2E tags (put_at 0x23 (26 ∷ []) file)
