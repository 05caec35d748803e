use Rattle.std.proofs.Common.{◌∙◌}
use Rattle.console_steps.proofs.BusRegisters.{memory_taken}
use Rattle.console_steps.proofs.effects.taken.Goals as goal

pub returns-in-Some : goal.returns-in-Some
returns-in-Some c = c.load.ensures ∙ memory_taken c.args.bus.now c.args.addr c.in-Some.access.at c.in-Some.access.clocks c.in-Some.ensures
