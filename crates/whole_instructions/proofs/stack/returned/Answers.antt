use Rattle.std.proofs.Common.{ℕ, refl, ap, subst, ◌∙◌, arith}
use Rattle.cpu_tables.specs.declared.mode.Mode.TheVariants.{Stack}
use Rattle.cpu_tables.specs.declared.regs.Regs.{Regs}
use Rattle.cpu_modes.specs.Addresses.{stack, pulled}
use Rattle.console_bus.specs.Memory.{IsMemoryAt}
use Rattle.whole_instructions.proofs.Pushes.{return_made}
use Rattle.whole_instructions.proofs.stack.returned.Goals as goal

pub returns-clause-made : goal.returns-clause-made
returns-clause-made c = λ _.
    let left = c.clocks_left.ensures.clocks in
    let fits = c.if-all-clocks_left.false in
    let bus = c.args.bus.now in
    let regs = c.args.regs.now in
    let First : ℕ → Type 0 = λ a. IsMemoryAt bus.board bus.io.fast a c.in-Some.first.at c.in-Some.first.clocks in
    let Next : ℕ → Type 0 = λ a. IsMemoryAt bus.board bus.io.fast a c.in-Some-low_access.next.at c.in-Some-low_access.next.clocks in
    let first = subst First c.pull_address.ensures.exact c.in-Some.ensures.memory in
    let next = subst Next (c.pull_address-2.ensures.exact ∙ ap (λ (r : Regs). stack (pulled r)) c.after_pull.ensures) c.in-Some-low_access.ensures.memory in
    rw (c.finish.ensures, c.pull_on-2.ensures, c.pull_on.ensures, c.pass.ensures.registers, c.pass.ensures.told, c.joined.ensures, c.load-low.ensures, c.load-high.ensures)
    (return_made bus regs c.args.at c.args.clocks c.in-Some.first.at c.in-Some.first.clocks c.in-Some-low_access.next.at c.in-Some-low_access.next.clocks _ Stack
    c.requires.code c.requires.row first next refl (omega (arith, left, fits)))
