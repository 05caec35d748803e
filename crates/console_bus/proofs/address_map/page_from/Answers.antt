use Rattle.std.proofs.Common.{◌≡◌, Some, subst, ◌∙◌, arith}
use Rattle.cart_map.specs.declared.places.Place.{Place}
use Rattle.console_bus.specs.Memory.{index_of, IsWhole}
use Rattle.console_bus.proofs.Pages.{first_place, is_page, no_page}
use Rattle.console_bus.proofs.address_map.page_from.Goals as goal

pub returns-in-Some : goal.returns-in-Some
returns-in-Some c =
    let board = c.args.board.now in
    let there = c.place_in-place.ensures.place ∙ first_place board c.args.number c.requires.number in
    let P : Place → Type 0 = λ p. index_of board p ≡ Some c.in-Some.at in
    is_page board c.args.fast c.args.number _ c.requires.some c.requires.number (subst P there c.in-Some.ensures.index) (subst (IsWhole board) there c.in-Some.ensures.whole)
    c.clocks.ensures (omega arith)

pub returns-in-None : goal.returns-in-None
returns-in-None c = no_page c.args.board.now c.args.fast c.args.number _ c.no_page.ensures
