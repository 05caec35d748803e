-- What a command is, and when outputs hold what it makes.
use Rattle.std.specs.Prelude.{ℕ, Bool, false, List, Option, take}
use Rattle.shelf.specs.declared.shelves.Input.{Input}
use Rattle.shelf.specs.declared.shelves.Out.{Out}
use Rattle.shelf.specs.Told.{Holds}
use Rattle.run_io.specs.Form.{FormValue, Order}
use Rattle.run_io.specs.Lists.{AllOf}

-- A command is the form of its words, with its inputs and its outputs in their order; and what it makes: of what the
-- words give and the bytes that are told of the inputs, the bytes that each output is to hold, and its line.
pub record Command : Type 1 where
  pub form : FormValue
  pub Makes : Order → (told : Input → Option (List ℕ)) → (contents : Out → List ℕ) → (line : List ℕ) → Type 0
  pub differs : List ℕ → Bool

-- the line of a command that compares nothing
abbrev pub never : List ℕ → Bool
never line = false

module _ (command : Command) (order : Order) (told : Input → Option (List ℕ)) where
  -- there is something that the command makes
  pub record CanMake : Type 0 where
    pub contents : Out → List ℕ
    pub line : List ℕ
    pub makes : command.Makes order told contents line

  module _ (written : Out → Option (List ℕ)) where
    -- all its outputs hold what it makes, whole, and this is its line
    pub record HoldsWhole (line : List ℕ) : Type 0 where
      pub contents : Out → List ℕ
      pub makes : command.Makes order told contents line
      pub holds : AllOf (λ out. Holds (written out) (contents out)) command.form.outputs

    -- an output holds first bytes of what it makes
    pub record HoldsFirst (out : Out) : Type 0 where
      pub contents : Out → List ℕ
      pub line : List ℕ
      pub makes : command.Makes order told contents line
      pub count : ℕ
      pub holds : Holds (written out) (take count (contents out))
