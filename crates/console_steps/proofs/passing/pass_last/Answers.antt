use Rattle.beam.specs.declared.events.Event.TheVariants.{HdmaLine, Timer}
use Rattle.beam.specs.Events.{one_if}
use Rattle.console_steps.specs.ConsoleState.{after_events}
use Rattle.console_steps.proofs.EventLists.{events_joined}
use Rattle.console_steps.proofs.passing.pass_last.Goals as goal

pub returns-clause-at : goal.returns-clause-at
returns-clause-at c = λ w at.
    let a = one_if c.args.happens.hdma_line HdmaLine in
    let b = one_if c.args.happens.timer Timer in
    rw (events_joined w a b) (c.pass_event-2.ensures.at (after_events w a) (c.pass_event.ensures.at w at))
