-- What words ask for.
use Rattle.std.specs.Prelude.{ℕ, List, Option, None, Some}
use Rattle.run_io.specs.Form.{Order, order_in}
use Rattle.snes_commands.specs.Command.{Command}

-- what words ask for: a command and what they give it, or nothing where they are in no form
pub data Wish : Type 1 where
  Nothing : Wish
  Asks : Command → Order → Wish

-- words that are read by the form of a command
abbrev pub ordered : Command → Option Order → Wish
ordered command None = Nothing
ordered command (Some order) = Asks command order

abbrev pub asks : Command → List (List ℕ) → Wish
asks command words = ordered command (order_in command.form words)

-- where there is a command, this holds of it and of what the words give it
abbrev pub IfAsks : Wish → (Command → Order → Type 0) → Type 0
IfAsks Nothing Holds = Unit {0}
IfAsks (Asks command order) Holds = Holds command order

-- the words are in no form
abbrev pub IsNothing : Wish → Type 0
IsNothing Nothing = Unit {0}
IsNothing (Asks command order) = ⊥
