-- The options of the command line: those of inputs, of outputs, of numbers, and of settings.
use Rattle.std.specs.Prelude.{ℕ, Bool, true, false, List, [], codes}
use Rattle.std.specs.List.{list_any}
use Rattle.std.specs.Str.{bytes_eq}
use Rattle.shelf.specs.declared.shelves.Input.{Input}
use Rattle.shelf.specs.declared.shelves.Input.TheVariants as input
use Rattle.shelf.specs.declared.shelves.Out.{Out}
use Rattle.shelf.specs.declared.shelves.Out.TheVariants as out
use Rattle.run_io.specs.declared.options.Count.{Count}
use Rattle.run_io.specs.declared.options.Count.TheVariants as count
use Rattle.run_io.specs.declared.options.Setting.{Setting}
use Rattle.run_io.specs.declared.options.Setting.TheVariants as setting

-- the option of an input
abbrev pub input_option : Input → List ℕ
input_option input.Cart = codes "--cart"
input_option input.Boot = codes "--boot"
input_option input.Spc = codes "--spc"
input_option input.Table = codes "--table"
input_option input.Script = codes "--script"
input_option input.Plan = codes "--plan"
input_option input.Sums = codes "--sums"

-- an input is one of those that may be left out
abbrev pub is_optional : List Input → Input → Bool
is_optional optional input = list_any (λ one. bytes_eq (input_option one) (input_option input)) optional

-- the option of an output; the lines have none
abbrev pub output_option : Out → List ℕ
output_option out.Video = codes "--video"
output_option out.Sound = codes "--audio"
output_option out.Image = codes "--out"
output_option out.Sums = codes "--sums"
output_option out.State = codes "--state"
output_option out.Spc = codes "--spc"
output_option out.Say = []

-- the option of a number, the most decimal digits that it has, and its greatest value
abbrev pub count_option : Count → List ℕ
count_option count.Frames = codes "--frames"
count_option count.Samples = codes "--samples"

abbrev pub digits_of : Count → ℕ
digits_of count.Frames = 5
digits_of count.Samples = 8

abbrev pub most_of : Count → ℕ
most_of count.Frames = 36000
most_of count.Samples = 19200000

-- a number that may be given in seconds too
abbrev pub takes_seconds : Count → Bool
takes_seconds count.Frames = false
takes_seconds count.Samples = true

abbrev pub seconds_option : List ℕ
seconds_option = codes "--seconds"

-- the option of a setting
abbrev pub setting_option : Setting → List ℕ
setting_option setting.Title = codes "--title"
setting_option setting.Game = codes "--game"
setting_option setting.Artist = codes "--artist"
setting_option setting.Comment = codes "--comment"
setting_option setting.Length = codes "--length"
setting_option setting.Fade = codes "--fade"
setting_option setting.Voices = codes "--voices"
