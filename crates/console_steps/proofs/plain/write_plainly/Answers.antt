use Rattle.console_steps.proofs.AtOnce.{write_made}
use Rattle.console_steps.proofs.Wires.{given_again}
use Rattle.console_steps.proofs.plain.write_plainly.Goals as goal

pub returns-clause-made : goal.returns-clause-made
returns-clause-made c = λ wired.
    write_made c.args.cpu.now c.give_plainly.new.cpu c.args.bus.now c.give_plainly.new.bus c.args.addr c.args.v c.in-Some.access.at c.in-Some.access.clocks
    c.in-Some.ensures.memory c.give_plainly.ensures.nothing c.give_plainly.ensures.rest
    (λ s h. given_again c.args.cpu.now c.give_plainly.new.cpu c.args.bus.now s 0 wired h (c.give_plainly.ensures.processor s h))
