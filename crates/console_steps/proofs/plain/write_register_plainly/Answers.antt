use Rattle.std.proofs.Common.{sym, ◌∙◌}
use Rattle.console_steps.proofs.RegisterPlaces.{calm_after, register_made_plainly}
use Rattle.console_steps.proofs.plain.write_register_plainly.Goals as goal

pub returns-clause-made : goal.returns-clause-made
returns-clause-made c = λ wired.
    register_made_plainly c.args.cpu.now c.give_register_plainly.new.cpu c.args.bus.now c.give_register_plainly.new.bus c.args.addr c.in_ok-register.register c.args.v wired
    (c.in_ok-register.ensures.place c.args.bus.now.board) (c.in_ok-register.ensures.lasts c.args.bus.now.io.fast) (sym c.is_port.ensures ∙ c.if-is_port.false)
    c.give_register_plainly.ensures.nothing c.give_register_plainly.ensures.rest c.give_register_plainly.ensures.processor

pub returns-clause-calm : goal.returns-clause-calm
returns-clause-calm c = calm_after c.args.bus.now c.give_register_plainly.new.bus c.in_ok-register.register c.args.v 6 c.give_register_plainly.ensures.rest
