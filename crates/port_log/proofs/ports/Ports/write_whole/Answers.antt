use Rattle.std.proofs.Common.{arith, ◌≤◌}
use Rattle.port_log.specs.Seating.{half_in}
use Rattle.port_log.proofs.Wholing.{told-always, stand-both, whole-told, both-hear, writes, same-logged, same-clock, own-at, later-logged, rises-by, own-le}
use Rattle.port_log.proofs.ports.Ports.write_whole.Goals as goal

pub invariant_of-whole : goal.invariant_of-whole
invariant_of-whole c =
    let t = told-always _ _ c.args.side _ c.whole.invariant c.write_by-answer.ensures.held c.write_by-answer.ensures.told in
    let met = c.meet-whole-inside.ensures in
    stand-both c.whole.invariant t _ _ met.console met.sound

pub returns-clause-answer : goal.returns-clause-answer
returns-clause-answer c =
    let t = told-always _ _ c.args.side _ c.whole.invariant c.write_by-answer.ensures.held c.write_by-answer.ensures.told in
    rw (← c.whole.view_is) (writes c.whole.invariant t _ _ _ _ _ _ c.as_of_log.ensures t.answers)

pub returns-clause-whole : goal.returns-clause-whole
returns-clause-whole c =
    let t = told-always _ _ c.args.side _ c.whole.invariant c.write_by-answer.ensures.held c.write_by-answer.ensures.told in
    rw (← c.whole.view_is) (whole-told c.whole.invariant t _ _ _ _ (same-logged _ _ _ c.as_of_log.ensures) (same-clock _ _ _ _ _ c.as_of_log.ensures (own-at c.args.side c.whole.inside.seats _ _)))

pub returns-clause-hears : goal.returns-clause-hears
returns-clause-hears c =
    let t = told-always _ _ c.args.side _ c.whole.invariant c.write_by-answer.ensures.held c.write_by-answer.ensures.told in
    let own = own-le _ c.whole.inside.seats _ _ _ (rw (← c.whole.view_is) at c.requires.own_clock) in
    let rise : (half_in c.args.side c.whole.inside.seats.list.me.0).at ≤ c.args.next = omega (arith, c.requires.rises, own) in
    rw (← c.whole.view_is) (both-hear c.whole.invariant t _ _ (rises-by _ _ _ rise) (later-logged _ _ _ own))
