use Rattle.cpu65816.specs.Instruction.{at_reset}
use Rattle.console_steps.proofs.effects.make_reset.Goals as goal

pub returns-clause-processor : goal.returns-clause-processor
returns-clause-processor c = c.give_interrupt_levels.ensures at_reset c.new.ensures
