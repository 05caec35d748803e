-- THE COMMANDS `--help` AND `--version`: a text is printed, and nothing else is done.
use Rattle.std.specs.Prelude.{◌≡◌, ℕ, false, List, [], Option, None}
use Rattle.shelf.specs.declared.shelves.Input.{Input}
use Rattle.shelf.specs.declared.shelves.Out.{Out}
use Rattle.run_io.specs.Form.{FormValue, Order}
use Rattle.run_io.specs.Line.{help_text, version_text}
use Rattle.snes_commands.specs.Command.{Command, never}

-- the words: none behind the name; nothing is loaded, and no output is created
abbrev pub text_form : FormValue
text_form = record { numbered = false; inputs = []; optional = []; count = None; settings = []; outputs = [] }

-- what is printed is the text
pub record MakesText (text : List ℕ) (order : Order) (told : Input → Option (List ℕ)) (contents : Out → List ℕ) (line : List ℕ) : Type 0 where
  pub says : line ≡ text

abbrev pub help : Command
help = record { form = text_form; Makes = MakesText help_text; differs = never }

abbrev pub version : Command
version = record { form = text_form; Makes = MakesText version_text; differs = never }
