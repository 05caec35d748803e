use Rattle.console_steps.proofs.Beams.{kept_beam}
use Rattle.console_steps.proofs.passing.pass_event.Goals as goal

pub returns-then-comes-clause-beam : goal.returns-then-comes-clause-beam
returns-then-comes-clause-beam c = kept_beam c.args.bus.now c.happen.new.bus c.args.event c.happen.ensures.rest
