use Rattle.std.proofs.Common.{ℕ, ◌%◌, nat_le, ◌∷◌, [], length, length-append, sym, ap, subst, ◌∙◌, arith}
use Rattle.console_bus.specs.Memory.{IsPageOf, ArePages}
use Rattle.console_bus.proofs.Pages.{one_more}
use Rattle.console_bus.proofs.address_map.pages_of.Goals as goal

pub pages-preserved : goal.pages-preserved
pages-preserved c =
    let board = c.args.board.now in
    let pages = c.pages.pages.items in
    let page = c.page_from.result in
    let Holds : ℕ → Type 0 = λ n. IsPageOf board (nat_le 2048 n) (n % 2048) page in
    let size = length-append pages (page ∷ []) in
    let count = c.pages.invariant.count in
    record {
      count = ap length c.in-Ok.ensures.items ∙ omega arith;
      are = subst (ArePages board) (sym c.in-Ok.ensures.items) (one_more board pages page c.pages.invariant.are (subst Holds (sym c.pages.invariant.count) c.page_from.ensures));
    }
