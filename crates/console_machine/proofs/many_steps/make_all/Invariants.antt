use Rattle.console_machine.specs.Follows.{Follows}
use Rattle.console_machine.proofs.many_steps.make_all.Given as goal

abbrev pub invariant-steps : goal.invariant-steps
invariant-steps l = record { follows : Follows l.initial.cpu l.cpu l.initial.bus l.bus }
