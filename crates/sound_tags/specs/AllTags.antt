-- ALL TAGS OF A SOUND FILE. A chunk of the extended tags comes before a field of the header.
use Rattle.std.specs.Prelude.{ℕ, ◌+◌, ◌*◌, ◌/◌, ◌%◌, List, Option, Some, None}
use Rattle.std.specs.Option.{option_map}
use Rattle.sound_tags.specs.declared.field.Field.TheVariants as field
use Rattle.sound_tags.specs.declared.tag.TextTag.{TextTag}
use Rattle.sound_tags.specs.declared.tag.TextTag.TheVariants as text
use Rattle.sound_tags.specs.declared.tag.NumberTag.{NumberTag}
use Rattle.sound_tags.specs.declared.tag.NumberTag.TheVariants as number
use Rattle.sound_tags.specs.Header.{header_text, header_length, header_fade, header_date, header_muted, header_emulator}
use Rattle.sound_tags.specs.Chunks.{chunk_text, chunk_number}

-- the first of two, or else the second
abbrev pub or_else : {A : Type 0} → Option A → Option A → Option A
or_else None second = second
or_else (Some value) second = Some value

-- THE TEXTS, with the IDs of the chunks
unfoldable pub text_of : List ℕ → TextTag → Option (List ℕ)
text_of file text.Title = or_else (chunk_text file 0x01) (header_text file field.Title)
text_of file text.Game = or_else (chunk_text file 0x02) (header_text file field.Game)
text_of file text.Artist = or_else (chunk_text file 0x03) (header_text file field.Artist)
text_of file text.Dumper = or_else (chunk_text file 0x04) (header_text file field.Dumper)
text_of file text.Date = header_text file field.Date
text_of file text.Comment = or_else (chunk_text file 0x07) (header_text file field.Comment)
text_of file text.Soundtrack = chunk_text file 0x10
text_of file text.Publisher = chunk_text file 0x13

-- a date in hexadecimal digits (yyyymmdd) as the number of the same decimal digits
abbrev pub date_digits : ℕ → ℕ
date_digits date =
    date % 16 + 10 * (date / 0x10 % 16) + 100 * (date / 0x100 % 16) + 1000 * (date / 0x1000 % 16)
    + 10000 * (date / 0x10000 % 16) + 100000 * (date / 0x100000 % 16) + 1000000 * (date / 0x1000000 % 16)
    + 10000000 * (date / 0x10000000 % 16)

abbrev pub chunk_date : List ℕ → Option ℕ
chunk_date file = option_map date_digits (chunk_number file 0x05)

-- THE NUMBERS
unfoldable pub number_of : List ℕ → NumberTag → Option ℕ
number_of file number.Date = or_else (chunk_date file) (header_date file)
number_of file number.Length = header_length file
number_of file number.Fade = header_fade file
number_of file number.Emulator = or_else (chunk_number file 0x06) (header_emulator file)
number_of file number.Muted = or_else (chunk_number file 0x34) (header_muted file)
number_of file number.Disc = chunk_number file 0x11
number_of file number.Track = chunk_number file 0x12
number_of file number.Year = chunk_number file 0x14
number_of file number.Intro = chunk_number file 0x30
number_of file number.Loop = chunk_number file 0x31
number_of file number.End = chunk_number file 0x32
number_of file number.FadeTicks = chunk_number file 0x33
number_of file number.Loops = chunk_number file 0x35
number_of file number.Amplification = chunk_number file 0x36
