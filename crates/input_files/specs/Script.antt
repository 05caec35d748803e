-- What a script file says, line by line. This project's own format.
use Rattle.std.specs.Prelude.{ℕ, ◌+◌, Bool, true, false, ◌&&◌, nat_le, nat_eq, if◌then◌else◌, min, List, [], ◌∷◌, ◌++◌, length, map, codes, Option, Some, None, Result, Ok, Err}
use Rattle.std.specs.Str.{bytes_eq}
use Rattle.bstr.specs.Text.{lines_of, without_terminator}
use Rattle.snes_defs.specs.declared.region.Region.{Region}
use Rattle.snes_defs.specs.declared.region.Region.TheVariants.{Ntsc, Pal}
use Rattle.snes_defs.specs.declared.profile.Profile.{Profile}
use Rattle.snes_defs.specs.declared.profile.Profile.TheVariants.{First, Second}
use Rattle.snes_defs.specs.declared.script.Span.{Span}
use Rattle.snes_defs.specs.Script.{Script}
use Rattle.input_files.specs.Fields.{span_of}
use Rattle.input_files.specs.declared.reading.Version.{Version}

-- what was read of a script: whether its first line gave a version, the region and the profile, the spans with the sum of their
-- counts, and the resets with the sum at the last of them, 0 before any
pub record Read : Type 0 where
  pub versioned : Bool
  pub region : Region
  pub profile : Profile
  pub spans : List Span
  pub frames : ℕ
  pub resets : List ℕ
  pub last : ℕ

-- nothing was read yet: version 1, Ntsc, the first profile
abbrev pub nothing_read : Read
nothing_read = record { versioned = false; region = Ntsc; profile = First; spans = []; frames = 0; resets = []; last = 0 }

-- the region that a first line names, and its profile: the first of version 2, the second of version 3
abbrev pub version_of : List ℕ → Option Version
version_of line =
    if bytes_eq line (codes "version 2 ntsc") then Some (record { region = Ntsc; profile = First })
    else (if bytes_eq line (codes "version 2 pal") then Some (record { region = Pal; profile = First })
    else (if bytes_eq line (codes "version 3 ntsc") then Some (record { region = Ntsc; profile = Second })
    else (if bytes_eq line (codes "version 3 pal") then Some (record { region = Pal; profile = Second })
    else None)))

-- after a span, whose frames may take the sum to 36,000 at most
abbrev pub after_span : Read → Option Span → Option Read
after_span r None = None
after_span r (Some span) =
    if nat_le (r.frames + span.count) 36000 then Some (record r { spans = r.spans ++ span ∷ []; frames = r.frames + span.count }) else None

-- after a reset, which stands neither at the sum 0 nor at the sum of the last reset; sums never fall
abbrev pub after_reset : Read → Option Read
after_reset r =
    if nat_eq r.frames r.last then None else Some (record r { resets = r.resets ++ r.frames ∷ []; last = r.frames })

-- after a line of no version: an empty line says nothing, `reset` counts where the first line gave a version, and every other
-- line is a span
unfoldable pub after_plain : Read → List ℕ → Option Read
after_plain r line =
    if nat_eq (length line) 0 then Some r
    else (if r.versioned && bytes_eq line (codes "reset") then after_reset r
    else after_span r (span_of line))

-- after a first line that may give a version
abbrev pub after_first : Read → List ℕ → Option Version → Option Read
after_first r line None = after_plain r line
after_first r line (Some version) = Some (record r { versioned = true; region = version.region; profile = version.profile })

-- after the line of a number, or none where it is of no form
unfoldable pub after_line : ℕ → Read → List ℕ → Option Read
after_line number r line = if nat_eq number 1 then after_first r line (version_of line) else after_plain r line

-- the script that was read
abbrev pub script_in : Read → Script
script_in r = record { region = r.region; profile = r.profile; spans = r.spans; resets = r.resets; room = 0 }

-- what follows a line: more of the script, or its refusal at the line's number
abbrev pub going_on : Option Read → ℕ → (Read → Result Script ℕ) → Result Script ℕ
going_on None number more = Err number
going_on (Some r) number more = more r

-- the script of lines from a number on, or the number of the first line that is of no form; the lines behind number
-- 4,294,967,295 share it
abbrev pub read_on : List (List ℕ) → ℕ → Read → Result Script ℕ
read_on [] number r = Ok (script_in r)
read_on (line ∷ rest) number r = going_on (after_line number r line) number (read_on rest (min (number + 1) 4294967295))

-- The script of a file, or the number of its first bad line. Lines end with LF; a CR before it is dropped, and the last LF may
-- be missing.
unfoldable pub script_of : List ℕ → Result Script ℕ
script_of file = read_on (map without_terminator (lines_of file)) 1 nothing_read
