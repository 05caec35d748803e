use Rattle.std.proofs.Common.{◌≡◌, ℕ, List, length}
use Rattle.console_bus.specs.declared.cart_board.CartBoard.{CartBoard}
use Rattle.console_bus.specs.declared.address_map.Page.{Page}
use Rattle.console_bus.specs.Memory.{ArePages}
use Rattle.console_bus.proofs.address_map.pages_of.Given as goal

-- the first pages are made
pub record AreFirst (board : CartBoard) (number : ℕ) (pages : List Page) : Type 0 where
  pub count : length pages ≡ number
  pub are : ArePages board pages

abbrev pub invariant-pages : goal.invariant-pages
invariant-pages l = AreFirst l.board l.number l.pages.items
