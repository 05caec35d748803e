use Rattle.std.proofs.Common.{◌≡◌, ℕ, ◌+◌, ◌/◌, ◌%◌, ◌<◌, Bool, nat_le, IfSome, sym, subst, arith}
use Rattle.console_bus.specs.declared.address_map.Page.{Page}
use Rattle.console_bus.specs.Memory.{MapState, IsStretch, IsPageOf}
use Rattle.console_bus.proofs.Pages.{of_speed}
use Rattle.console_bus.proofs.address_map.AddressMap.stretch_within.Goals as goal

pub returns-clause-stretch : goal.returns-clause-stretch
returns-clause-stretch c =
    let addr = c.args.addr in
    let map = c.self.inside in
    let has = c.self.invariant in
    let below : addr / 8192 < 2048 = (let h = c.requires.addr in omega arith) in
    let number = map.first + addr / 8192 in
    let page = c.index-page.result.now in
    let found = subst (λ (q : Page). IsPageOf map.board (nat_le 2048 number) (number % 2048) q) (sym c.index-page.ensures) (has.are number page (let count = has.count in let few = has.few in omega arith)) in
    let same : number % 2048 ≡ addr / 8192 = (let whole = has.whole in let few = has.few in omega arith) in
    let numbered = subst (λ (n : ℕ). IsPageOf map.board (nat_le 2048 number) n page) same found in
    let there = subst (λ (b : Bool). IsPageOf map.board b (addr / 8192) page) (of_speed map.first (addr / 8192) has.whole has.few below) numbered in
    let Of : MapState → Type 0 = λ m. IfSome c.access.result (λ access. IsStretch m.board m.fast addr access.at access.clocks) in
    subst Of c.self.view_is (c.access.ensures.stretch map.board (nat_le 2048 map.first) there)
