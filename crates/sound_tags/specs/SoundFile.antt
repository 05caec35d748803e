-- A sound file (the SPC file format), as far as all its tags need it: which files are accepted, and how parts are read.
use Rattle.std.specs.Prelude.{ℕ, ◌+◌, ◌*◌, not, ◌==◌, nat_lt, List, length, take, drop, slice_index, position, codes, Option, Some, None, unwrap_or, if◌then◌else◌}
use Rattle.std.specs.Str.{bytes_eq}
use Rattle.sound_tags.specs.declared.sound_file.NotSoundFile.{NotSoundFile}
use Rattle.sound_tags.specs.declared.sound_file.NotSoundFile.TheVariants.{TooLong, TooShort, NoText}

-- WHY A FILE IS REFUSED: it has more than 1,048,576 bytes, or fewer than 65,920, or does not begin with the text
unfoldable pub refusal_of : List ℕ → Option NotSoundFile
refusal_of file =
    if nat_lt 1048576 (length file) then Some TooLong
    else (if nat_lt (length file) 65920 then Some TooShort
    else (if not (bytes_eq (take 27 file) (codes "SNES-SPC700 Sound File Data")) then Some NoText
    else None))

-- so many bytes at an offset
abbrev pub part_at : List ℕ → (at size : ℕ) → List ℕ
part_at file at size = take size (drop at file)

-- the bytes before the first zero, or all if there is none
abbrev pub up_to_zero : List ℕ → List ℕ
up_to_zero bytes = take (unwrap_or (position (λ byte. byte == 0) bytes) (length bytes)) bytes

-- numbers of two to four bytes at an offset, the low byte first
abbrev pub little2 : List ℕ → ℕ → ℕ
little2 file at = slice_index file at + 0x100 * slice_index file (at + 1)

abbrev pub little3 : List ℕ → ℕ → ℕ
little3 file at = slice_index file at + 0x100 * slice_index file (at + 1) + 0x10000 * slice_index file (at + 2)

abbrev pub little4 : List ℕ → ℕ → ℕ
little4 file at =
    slice_index file at + 0x100 * slice_index file (at + 1) + 0x10000 * slice_index file (at + 2)
    + 0x1000000 * slice_index file (at + 3)
