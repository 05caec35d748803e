-- What is put to the image is what its command makes.
use Rattle.std.proofs.Common.{◌≡◌, ℕ, List, [], ◌∷◌, length, Option, refl, sym, subst, arith}
use Rattle.std.proofs.lemmas.List.{take_all}
use Rattle.shelf.specs.declared.shelves.Input.{Input}
use Rattle.shelf.specs.declared.shelves.Out.TheVariants.{Image}
use Rattle.shelf.specs.Told.{Holds, Appends, AppendsSome}
use Rattle.shelf.specs.Shown.{Shown}
use Rattle.run_io.specs.Line.{line_of, image_text}
use Rattle.run_io.specs.Form.{Order}
use Rattle.run_io.specs.Lists.{AllOf}
use Rattle.snes_commands.specs.Command.{CanMake, HoldsWhole, HoldsFirst}
use Rattle.snes_commands.specs.Make.{IsImage, make}

module _ (order : Order) (told : Input → Option (List ℕ)) (bytes : List ℕ) (image : IsImage order.number bytes) where
  pub make_can : CanMake make order told
  make_can = record { contents = λ o. bytes; line = line_of image_text; makes = record { image = image; says = refl } }

  module _ (before after : Shown) (empty : Holds (before.written Image) []) where
    pub make_whole : (line : List ℕ) → line ≡ line_of image_text → Appends (before.written Image) (after.written Image) bytes → HoldsWhole make order told after.written line
    make_whole line says puts = record { contents = λ o. bytes; makes = record { image = image; says = says }; holds = (puts [] empty, tt) }

    pub make_first : AppendsSome (before.written Image) (after.written Image) bytes → AllOf (HoldsFirst make order told after.written) (Image ∷ [])
    make_first puts =
        let some = puts [] empty in
        (record { contents = λ o. bytes; line = line_of image_text; makes = record { image = image; says = refl }; count = some.0; holds = some.1 }, tt)

    pub make_all : Appends (before.written Image) (after.written Image) bytes → AllOf (HoldsFirst make order told after.written) (Image ∷ [])
    make_all puts = (
      record {
        contents = λ o. bytes;
        line = line_of image_text;
        makes = record { image = image; says = refl };
        count = length bytes;
        holds = subst (Holds (after.written Image)) (sym (take_all (length bytes) bytes (omega arith))) (puts [] empty);
      },
      tt,
    )
