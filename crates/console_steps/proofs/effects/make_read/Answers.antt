use Rattle.std.proofs.Common.{ℕ, ap, subst, ◌∙◌}
use Rattle.cpu65816.specs.Instruction.{moved_on}
use Rattle.cpu65816.specs.Stands.{Stands, access_of}
use Rattle.console_bus.specs.Places.{on_bus}
use Rattle.console_steps.specs.ConsoleState.{with_interrupt_levels}
use Rattle.console_steps.specs.Targets.{target_read}
use Rattle.console_steps.proofs.AtOnce.{gets_where_read}
use Rattle.console_steps.proofs.Targets.{read_is}
use Rattle.console_steps.proofs.effects.make_read.Goals as goal

pub took-requires : goal.took-requires
took-requires c = gets_where_read (access_of c.args.cpu.now) c.requires.addr c.requires.is

pub returns-clause-rest : goal.returns-clause-rest
returns-clause-rest c =
    let r = c.args.bus.now in
    let t = c.args.access.target in
    let is = read_is r (access_of c.args.cpu.now) c.requires.addr t c.args.got c.requires.is c.requires.reaches.target in
    c.put.ensures ∙ ap (λ q. on_bus q c.read_target-byte.result) c.read_target-byte.ensures.after
    ∙ ap (λ b. on_bus (target_read r t) b) c.read_target-byte.ensures.byte ∙ is.after

pub returns-clause-processor : goal.returns-clause-processor
returns-clause-processor c = λ s h.
    let is = read_is c.args.bus.now (access_of c.args.cpu.now) c.requires.addr c.args.access.target c.args.got c.requires.is c.requires.reaches.target in
    let P : ℕ → Type 0 = λ b. Stands c.give_interrupt_levels.new.cpu (with_interrupt_levels (moved_on s b) c.put.new.self) in
    subst P (c.read_target-byte.ensures.byte ∙ is.byte) (c.give_interrupt_levels.ensures (moved_on s c.read_target-byte.result) (c.took.ensures s h))
