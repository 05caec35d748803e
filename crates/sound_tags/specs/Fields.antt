-- ID666, the tags in the header of a sound file: where each field begins in the file, and how many bytes it has.
use Rattle.std.specs.Prelude.{ℕ, Bool, true, false}
use Rattle.sound_tags.specs.declared.field.Form.{Form}
use Rattle.sound_tags.specs.declared.field.Form.TheVariants.{Text, Binary}
use Rattle.sound_tags.specs.declared.field.Field.{Field}
use Rattle.sound_tags.specs.declared.field.Field.TheVariants.{Title, Game, Dumper, Comment, Date, Length, Fade, Artist}

-- the offset of a field's first byte
abbrev pub offset_of : Form → Field → ℕ
offset_of form Title = 0x2E
offset_of form Game = 0x4E
offset_of form Dumper = 0x6E
offset_of form Comment = 0x7E
offset_of form Date = 0x9E
offset_of form Length = 0xA9
offset_of form Fade = 0xAC
offset_of Text Artist = 0xB1
offset_of Binary Artist = 0xB0

-- its bytes
abbrev pub size_of : Form → Field → ℕ
size_of form Title = 32
size_of form Game = 32
size_of form Dumper = 16
size_of form Comment = 32
size_of Text Date = 11
size_of Binary Date = 4
size_of form Length = 3
size_of Text Fade = 5
size_of Binary Fade = 4
size_of form Artist = 32

-- a field whose text form is a number in decimal digits
abbrev pub is_number : Field → Bool
is_number Title = false
is_number Game = false
is_number Dumper = false
is_number Comment = false
is_number Date = false
is_number Length = true
is_number Fade = true
is_number Artist = false
