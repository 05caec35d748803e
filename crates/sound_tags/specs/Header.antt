-- THE TAGS IN THE HEADER: ID666 in its text form and its binary form.
use Rattle.std.specs.Prelude.{ℕ, ◌+◌, ◌*◌, ◌-◌, Bool, true, false, ◌&&◌, not, ◌==◌, nat_lt, List, [], ◌∷◌, length, take, drop, slice_index, Option, Some, None, if◌then◌else◌}
use Rattle.std.specs.List.{list_all}
use Rattle.std.specs.Char.{is_ascii_digit}
use Rattle.sound_tags.specs.declared.field.Form.{Form}
use Rattle.sound_tags.specs.declared.field.Form.TheVariants.{Text, Binary}
use Rattle.sound_tags.specs.declared.field.Field.{Field}
use Rattle.sound_tags.specs.declared.field.Field.TheVariants.{Title, Game, Dumper, Comment, Date, Length, Fade, Artist}
use Rattle.sound_tags.specs.SoundFile.{part_at, up_to_zero, little2, little3, little4}
use Rattle.sound_tags.specs.Fields.{offset_of, size_of}
use Rattle.sound_tags.specs.Number.{spelled}
use Rattle.sound_tags.specs.Put.{is_printable}

-- such bytes, and then zeros alone
abbrev pub then_zeros : (ℕ → Bool) → List ℕ → Bool
then_zeros test bytes = list_all test (up_to_zero bytes) && list_all (λ byte. byte == 0) (drop (length (up_to_zero bytes)) bytes)

unfoldable pub is_digits : List ℕ → Bool
is_digits bytes = then_zeros is_ascii_digit bytes

unfoldable pub is_text : List ℕ → Bool
is_text bytes = then_zeros is_printable bytes

-- WHICH FORM A HEADER HAS. It has tags if its byte at 23 is 26. They are in the text form if the bytes of date, length
-- and fade are a text and two numbers in digits, each followed by zeros alone; all three may be empty.
unfoldable pub form_of : List ℕ → Option Form
form_of file =
    if not (slice_index file 0x23 == 26) then None
    else (if is_text (part_at file 0x9E 11) && is_digits (part_at file 0xA9 3) && is_digits (part_at file 0xAC 5)
    then Some Text else Some Binary)

-- a text that has a byte, and a number other than 0
abbrev pub filled : List ℕ → Option (List ℕ)
filled [] = None
filled (byte ∷ bytes) = Some (byte ∷ bytes)

abbrev pub counted : ℕ → Option ℕ
counted number = if number == 0 then None else Some number

-- THE TEXT OF A FIELD: its bytes before the first zero. A date in the binary form is no text.
abbrev pub text_in : Option Form → List ℕ → Field → Option (List ℕ)
text_in None file field = None
text_in (Some Binary) file Date = None
text_in (Some form) file field = filled (up_to_zero (part_at file (offset_of form field) (size_of form field)))

unfoldable pub header_text : List ℕ → Field → Option (List ℕ)
header_text file field = text_in (form_of file) file field

-- a number by the two forms
abbrev pub by_form : Option Form → Option ℕ → Option ℕ → Option ℕ
by_form None text binary = None
by_form (Some Text) text binary = text
by_form (Some Binary) text binary = binary

-- THE NUMBERS. The length in seconds; the fade in milliseconds; the date of the binary form as a number of eight digits,
-- year, month and day; the muted voices, a bit for each; the emulator, in the text form often a digit
unfoldable pub header_length : List ℕ → Option ℕ
header_length file = by_form (form_of file) (spelled (up_to_zero (part_at file 0xA9 3))) (counted (little3 file 0xA9))

unfoldable pub header_fade : List ℕ → Option ℕ
header_fade file = by_form (form_of file) (spelled (up_to_zero (part_at file 0xAC 5))) (counted (little4 file 0xAC))

unfoldable pub header_date : List ℕ → Option ℕ
header_date file =
    by_form (form_of file) None
    (counted (10000 * little2 file 0xA0 + 100 * slice_index file 0x9F + slice_index file 0x9E))

unfoldable pub header_muted : List ℕ → Option ℕ
header_muted file = by_form (form_of file) (counted (slice_index file 0xD1)) (counted (slice_index file 0xD0))

abbrev pub digit_or_byte : ℕ → ℕ
digit_or_byte byte = if is_ascii_digit byte then byte - 48 else byte

unfoldable pub header_emulator : List ℕ → Option ℕ
header_emulator file =
    by_form (form_of file) (counted (digit_or_byte (slice_index file 0xD2))) (counted (slice_index file 0xD1))
