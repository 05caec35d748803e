use Rattle.console_steps.proofs.AtOnce.{read_made}
use Rattle.console_steps.proofs.Wires.{given_again}
use Rattle.console_steps.proofs.plain.read_plainly.Goals as goal

pub returns-clause-made : goal.returns-clause-made
returns-clause-made c = λ wired.
    read_made c.args.cpu.now c.take_plainly.new.cpu c.args.bus.now c.take_plainly.new.bus c.args.addr c.in_ok-access.access.at c.in_ok-access.access.clocks
    c.in_ok-access.ensures.memory c.take_plainly.ensures.nothing c.take_plainly.ensures.rest
    (λ s h. given_again c.args.cpu.now c.take_plainly.new.cpu c.args.bus.now s _ wired h (c.take_plainly.ensures.processor s h))

pub returns-clause-looks : goal.returns-clause-looks
returns-clause-looks c = (c.in_ok-access.access.at, c.in_ok-access.ensures.memory.place)
