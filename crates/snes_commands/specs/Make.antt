-- THE COMMAND `make`: a number makes the image of a cartridge.
use Rattle.std.specs.Prelude.{◌≡◌, ℕ, ◌<◌, true, List, [], ◌∷◌, length, slice_index, Option, None}
use Rattle.demo_files.specs.Image.{byte_of}
use Rattle.shelf.specs.declared.shelves.Input.{Input}
use Rattle.shelf.specs.declared.shelves.Out.{Out}
use Rattle.shelf.specs.declared.shelves.Out.TheVariants.{Image}
use Rattle.run_io.specs.Line.{line_of, image_text}
use Rattle.run_io.specs.Form.{FormValue, Order}
use Rattle.snes_commands.specs.Command.{Command, never}

-- the words: a number, and an output
abbrev pub make_form : FormValue
make_form = record { numbered = true; inputs = []; optional = []; count = None; settings = []; outputs = Image ∷ [] }

-- the 524,288 bytes of the cartridge that a number makes
pub record IsImage (number : ℕ) (bytes : List ℕ) : Type 0 where
  pub size : length bytes ≡ 524288
  pub bytes_are : (offset : ℕ) → offset < 524288 → slice_index bytes offset ≡ byte_of number offset

-- the image is that of the number
pub record MakesImage (order : Order) (told : Input → Option (List ℕ)) (contents : Out → List ℕ) (line : List ℕ) : Type 0 where
  pub image : IsImage order.number (contents Image)
  pub says : line ≡ line_of image_text

abbrev pub make : Command
make = record { form = make_form; Makes = MakesImage; differs = never }
