use Rattle.console_machine.proofs.Follows.{follows_one}
use Rattle.console_machine.proofs.many_steps.make_one.Goals as goal

pub returns-in-Some : goal.returns-in-Some
returns-in-Some c =
    let step = c.in-Some.ensures in
    follows_one c.args.cpu.now c.try_plain.new.cpu c.args.bus.now c.try_plain.new.bus _ step.made step.within step.left step.calm
