-- A text that is printed is what its command makes.
use Rattle.std.proofs.Common.{◌≡◌, ℕ, List, [], Option, refl}
use Rattle.shelf.specs.declared.shelves.Input.{Input}
use Rattle.shelf.specs.declared.shelves.Out.{Out}
use Rattle.run_io.specs.Form.{Order}
use Rattle.snes_commands.specs.Command.{Command, CanMake, HoldsWhole, never}
use Rattle.snes_commands.specs.Help.{text_form, MakesText}

abbrev tells : List ℕ → Command
tells text = record { form = text_form; Makes = MakesText text; differs = never }

module _ (text : List ℕ) (order : Order) (told : Input → Option (List ℕ)) where
  pub text_can : CanMake (tells text) order told
  text_can = record { contents = λ o. []; line = text; makes = record { says = refl } }

  pub text_whole : (written : Out → Option (List ℕ)) (line : List ℕ) → line ≡ text → HoldsWhole (tells text) order told written line
  text_whole written line says = record { contents = λ o. []; makes = record { says = says }; holds = tt }
