-- Words that are in a form ask for its command, and others for nothing.
use Rattle.std.proofs.Common.{◌≡◌, List, ℕ, None, Some, subst, sym}
use Rattle.run_io.specs.Form.{Order, order_in}
use Rattle.snes_commands.specs.Command.{Command}
use Rattle.snes_commands.specs.Wish.{ordered, asks, IsNothing}

pub asks_something : (command : Command) (words : List (List ℕ)) (order : Order) → order_in command.form words ≡ Some order → ¬ IsNothing (asks command words)
asks_something command words order is none = subst (λ o. IsNothing (ordered command o)) is none

pub asks_nothing : (command : Command) (words : List (List ℕ)) → order_in command.form words ≡ None → IsNothing (asks command words)
asks_nothing command words is = subst (λ o. IsNothing (ordered command o)) (sym is) tt

pub ruleset explains = (asks_something, asks_nothing)
