use Rattle.beam.specs.declared.events.Event.TheVariants.{Line, Blank, HdmaFrame, Refresh}
use Rattle.beam.specs.Events.{one_if}
use Rattle.console_steps.specs.ConsoleState.{after_events}
use Rattle.console_steps.proofs.EventLists.{four_joined}
use Rattle.console_steps.proofs.passing.pass_first.Goals as goal

pub returns-clause-at : goal.returns-clause-at
returns-clause-at c = λ w at.
    let h = c.args.happens in
    let a = one_if h.line Line in
    let b = one_if h.blank Blank in
    let d = one_if h.hdma_frame HdmaFrame in
    let e = one_if h.refresh Refresh in
    let w1 = after_events w a in
    let w2 = after_events w1 b in
    let w3 = after_events w2 d in
    let s1 = c.pass_event.ensures.at w at in
    let s2 = c.pass_event-2.ensures.at w1 s1 in
    let s3 = c.pass_event-3.ensures.at w2 s2 in
    rw (four_joined w a b d e) (c.pass_event-4.ensures.at w3 s3)
