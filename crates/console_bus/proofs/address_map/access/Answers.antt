use Rattle.std.proofs.Common.{◌≡◌, ℕ, ◌+◌, ◌*◌, ◌/◌, ◌%◌, subst, arith}
use Rattle.console_bus.specs.Memory.{IsMemoryAt}
use Rattle.console_bus.proofs.address_map.access.Goals as goal

pub returns-clause-stretch : goal.returns-clause-stretch
returns-clause-stretch c = λ board fast page. record {
  bytes = λ k within. (
      let addr = c.args.addr in
      let first = c.args.page.at in
      let clocks = c.args.page.clocks in
      let there : 8192 * (addr / 8192) + (addr % 8192 + k) ≡ addr + k = omega arith in
      let byte : first + (addr % 8192 + k) ≡ first + addr % 8192 + k = omega arith in
      let At : ℕ → Type 0 = λ a. IsMemoryAt board fast a (first + (addr % 8192 + k)) clocks in
      let Of : ℕ → Type 0 = λ n. IsMemoryAt board fast (addr + k) n clocks in
      subst Of byte (subst At there (page (omega arith) (addr % 8192 + k) within)));
}
