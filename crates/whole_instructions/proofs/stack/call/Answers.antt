use Rattle.std.proofs.Common.{ℕ, refl, ap, subst, ◌∙◌, arith}
use Rattle.cpu_tables.specs.declared.regs.Regs.{Regs}
use Rattle.cpu_modes.specs.Addresses.{stack}
use Rattle.console_bus.specs.Memory.{IsMemoryAt}
use Rattle.whole_instructions.proofs.Pushes.{call_made}
use Rattle.whole_instructions.proofs.stack.call.Goals as goal

pub returns-clause-made : goal.returns-clause-made
returns-clause-made c = λ _.
    let left = c.clocks_left.ensures.clocks in
    let fits = c.if-all-clocks_left.false in
    let bus = c.args.bus.now in
    let regs = c.args.regs.now in
    let First : ℕ → Type 0 = λ a. IsMemoryAt bus.board bus.io.fast a c.in-Some.first.at c.in-Some.first.clocks in
    let Next : ℕ → Type 0 = λ a. IsMemoryAt bus.board bus.io.fast a c.in-Some-low_access.next.at c.in-Some-low_access.next.clocks in
    let first = subst First c.stack_address.ensures.exact c.in-Some.ensures.memory in
    let next = subst Next (c.stack_address-2.ensures.exact ∙ ap (λ (r : Regs). stack r) c.after_push.ensures) c.in-Some-low_access.ensures.memory in
    rw (c.finish.ensures, c.push_on-2.ensures, c.push_on.ensures, c.pass.ensures.registers, c.pass.ensures.told, c.write-2.ensures.written, c.write.ensures.written, c.word-target.ensures)
    (call_made bus regs c.args.at c.args.clocks c.in-Some.first.at c.in-Some.first.clocks c.in-Some-low_access.next.at c.in-Some-low_access.next.clocks _ c.high_byte.result c.low_byte-v.result
    c.requires.code c.requires.row first next refl (omega (arith, left, fits)) (rw (c.high_byte.ensures, c.passed-back.ensures) refl) (rw (c.low_byte-v.ensures, c.passed-back.ensures) refl))
