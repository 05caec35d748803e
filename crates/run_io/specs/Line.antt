-- The lines for the user.
use Rattle.std.specs.Prelude.{ℕ, ◌+◌, ◌/◌, ◌%◌, List, [], ◌∷◌, ◌++◌, codes, decimal, Option, Some, None, nat_lt, if◌then◌else◌}
use Rattle.snes_defs.specs.declared.ports.Side.{Side}
use Rattle.snes_defs.specs.declared.ports.Side.TheVariants.{Console, Sound}
use Rattle.cart_map.specs.declared.refused.CartRefused.{CartRefused}
use Rattle.cart_map.specs.declared.refused.CartRefused.TheVariants as cart
use Rattle.shelf.specs.declared.shelves.Input.{Input}
use Rattle.shelf.specs.declared.shelves.Input.TheVariants as input
use Rattle.shelf.specs.declared.shelves.Out.{Out}
use Rattle.shelf.specs.declared.shelves.Out.TheVariants as out
use Rattle.run_io.specs.declared.help.TheConstants.{HELP, VERSION}

-- the help and the version, which are the texts of the code
abbrev pub help_text : List ℕ
help_text = HELP.now

abbrev pub version_text : List ℕ
version_text = VERSION.now

-- a text, ended by LF
abbrev pub line_of : List ℕ → List ℕ
line_of text = text ++ 10 ∷ []

-- one capital hexadecimal digit of a number below 16
abbrev pub hex_digit : ℕ → ℕ
hex_digit n = if nat_lt n 10 then 48 + n else 55 + n

-- the two hexadecimal digits of a byte
abbrev pub hex_byte : ℕ → List ℕ
hex_byte byte = hex_digit (byte / 16) ∷ (hex_digit (byte % 16) ∷ [])

-- a run was made
abbrev pub frames_text : ℕ → ℕ → List ℕ
frames_text frames samples = codes "frames " ++ decimal frames ++ codes " samples " ++ decimal samples

-- a demo was played: the sums of the bytes of its video and of its sound
abbrev pub demo_text : ℕ → ℕ → ℕ → ℕ → List ℕ
demo_text frames samples video sound =
    frames_text frames samples ++ codes " video " ++ decimal video ++ codes " sound " ++ decimal sound

-- a cartridge was made
abbrev pub image_text : List ℕ
image_text = codes "image 524288"

-- a sound file was played
abbrev pub samples_text : ℕ → List ℕ
samples_text samples = codes "samples " ++ decimal samples

-- a file is no cartridge, boot ROM, table, script or plan
abbrev pub cart_refused_text : CartRefused → List ℕ
cart_refused_text cart.TooShort = codes "cart refused: too short"
cart_refused_text cart.TooLong = codes "cart refused: too long"
cart_refused_text cart.NoHeader = codes "cart refused: no header"
cart_refused_text (cart.Coprocessor chip) = codes "cart refused: coprocessor " ++ hex_byte chip
cart_refused_text (cart.RamSize size) = codes "cart refused: ram size " ++ decimal size

abbrev pub boot_refused_text : List ℕ
boot_refused_text = codes "boot refused"

-- a sound file has too many bytes or too few, or does not begin with its text
abbrev pub spc_too_long_text : List ℕ
spc_too_long_text = codes "spc refused: too long"

abbrev pub spc_too_short_text : List ℕ
spc_too_short_text = codes "spc refused: too short"

abbrev pub spc_no_text_text : List ℕ
spc_no_text_text = codes "spc refused: no text"

abbrev pub table_refused_text : ℕ → List ℕ
table_refused_text entry = codes "table refused at " ++ decimal entry

abbrev pub script_refused_text : ℕ → List ℕ
script_refused_text line = codes "script refused at line " ++ decimal line

abbrev pub plan_refused_text : ℕ → List ℕ
plan_refused_text line = codes "plan refused at line " ++ decimal line

abbrev pub sums_refused_text : ℕ → List ℕ
sums_refused_text line = codes "sums refused at line " ++ decimal line

-- the column of a side in a file of sums
abbrev pub column_text : Side → List ℕ
column_text Console = codes " picture"
column_text Sound = codes " sound"

-- the first difference between a run and a file of sums: at a frame, in how many frames there are, or in the sum of all
abbrev pub frame_differs_text : ℕ → Side → List ℕ
frame_differs_text frame side = codes "differs: frame " ++ decimal frame ++ column_text side

abbrev pub frames_differ_text : List ℕ
frames_differ_text = codes "differs: frames"

abbrev pub all_differ_text : Side → List ℕ
all_differ_text side = codes "differs: all" ++ column_text side

-- the words are in no form
abbrev pub usage_text : List ℕ
usage_text = codes "usage: snes run, serial, make or demo"

-- a file was not loaded
abbrev pub cannot_read_text : Input → List ℕ
cannot_read_text input.Cart = codes "cannot read cart"
cannot_read_text input.Boot = codes "cannot read boot"
cannot_read_text input.Spc = codes "cannot read spc"
cannot_read_text input.Table = codes "cannot read table"
cannot_read_text input.Script = codes "cannot read script"
cannot_read_text input.Plan = codes "cannot read plan"
cannot_read_text input.Sums = codes "cannot read sums"

-- an output was not written; there is no line for the output that the lines themselves go to
abbrev pub cannot_write_text : Out → Option (List ℕ)
cannot_write_text out.Video = Some (codes "cannot write video")
cannot_write_text out.Sound = Some (codes "cannot write sound")
cannot_write_text out.Image = Some (codes "cannot write image")
cannot_write_text out.Sums = Some (codes "cannot write sums")
cannot_write_text out.State = Some (codes "cannot write state")
cannot_write_text out.Spc = Some (codes "cannot write spc")
cannot_write_text out.Say = None

-- there was no memory
abbrev pub no_memory_text : List ℕ
no_memory_text = codes "no memory"
