-- THE LINES OF A SOUND FILE. Each definition adds lines to the text so far; a tag that is not there has no line.
use Rattle.std.specs.Prelude.{ℕ, ◌+◌, ◌/◌, ◌%◌, ◌&&◌, nat_lt, List, [], ◌∷◌, ◌++◌, codes, decimal, Option, Some, None, if◌then◌else◌}
use Rattle.sound_tags.specs.declared.field.Form.{Form}
use Rattle.sound_tags.specs.declared.field.Form.TheVariants.{Text, Binary}
use Rattle.sound_tags.specs.declared.tag.TextTag.TheVariants as text
use Rattle.sound_tags.specs.declared.tag.NumberTag.TheVariants as number
use Rattle.sound_tags.specs.Header.{form_of}
use Rattle.sound_tags.specs.AllTags.{text_of, number_of}
use Rattle.tag_report.specs.Shown.{shown}

-- a line: its name with a colon, what it says, and LF
abbrev pub with_text : (before name : List ℕ) → Option (List ℕ) → List ℕ
with_text before name None = before
with_text before name (Some text) = before ++ name ++ shown text ++ 10 ∷ []

abbrev pub with_number : (before name : List ℕ) → Option ℕ → List ℕ
with_number before name None = before
with_number before name (Some number) = before ++ name ++ decimal number ++ 10 ∷ []

-- the character of a track, if it is a visible one
abbrev pub letter_of : ℕ → List ℕ
letter_of code = if nat_lt 0x20 code && nat_lt code 0x7F then code ∷ [] else []

abbrev pub with_track : (before : List ℕ) → Option ℕ → List ℕ
with_track before None = before
with_track before (Some track) =
    before ++ codes "track: " ++ decimal (track / 256) ++ letter_of (track % 256) ++ 10 ∷ []

-- the first line: which form the header's tags have
unfoldable pub form_text : Option Form → List ℕ
form_text None = codes "header: no tags" ++ 10 ∷ []
form_text (Some Text) = codes "header: text" ++ 10 ∷ []
form_text (Some Binary) = codes "header: binary" ++ 10 ∷ []

-- the texts
unfoldable pub with_names : (before file : List ℕ) → List ℕ
with_names before file =
    let a = with_text before (codes "title: ") (text_of file text.Title) in
    let b = with_text a (codes "game: ") (text_of file text.Game) in
    let c = with_text b (codes "artist: ") (text_of file text.Artist) in
    with_text c (codes "dumper: ") (text_of file text.Dumper)

unfoldable pub with_notes : (before file : List ℕ) → List ℕ
with_notes before file =
    let a = with_text before (codes "date-text: ") (text_of file text.Date) in
    let b = with_text a (codes "comment: ") (text_of file text.Comment) in
    let c = with_text b (codes "soundtrack: ") (text_of file text.Soundtrack) in
    with_text c (codes "publisher: ") (text_of file text.Publisher)

-- how the file is played: seconds and milliseconds; ticks of 1/64,000 s; loops, voices and loudness
unfoldable pub with_lengths : (before file : List ℕ) → List ℕ
with_lengths before file =
    let a = with_number before (codes "length: ") (number_of file number.Length) in
    with_number a (codes "fade: ") (number_of file number.Fade)

unfoldable pub with_ticks : (before file : List ℕ) → List ℕ
with_ticks before file =
    let a = with_number before (codes "intro-ticks: ") (number_of file number.Intro) in
    let b = with_number a (codes "loop-ticks: ") (number_of file number.Loop) in
    let c = with_number b (codes "end-ticks: ") (number_of file number.End) in
    with_number c (codes "fade-ticks: ") (number_of file number.FadeTicks)

unfoldable pub with_settings : (before file : List ℕ) → List ℕ
with_settings before file =
    let a = with_number before (codes "loops: ") (number_of file number.Loops) in
    let b = with_number a (codes "muted: ") (number_of file number.Muted) in
    with_number b (codes "amplification: ") (number_of file number.Amplification)

-- where the tune is from
unfoldable pub with_album : (before file : List ℕ) → List ℕ
with_album before file =
    let a = with_number before (codes "date: ") (number_of file number.Date) in
    let b = with_number a (codes "disc: ") (number_of file number.Disc) in
    let c = with_track b (number_of file number.Track) in
    let d = with_number c (codes "year: ") (number_of file number.Year) in
    with_number d (codes "emulator: ") (number_of file number.Emulator)

-- ALL LINES
unfoldable pub report_of : List ℕ → List ℕ
report_of file =
    let names = with_notes (with_names (form_text (form_of file)) file) file in
    with_album (with_settings (with_ticks (with_lengths names file) file) file) file
