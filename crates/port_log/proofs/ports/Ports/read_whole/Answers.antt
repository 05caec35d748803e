use Rattle.std.proofs.Common.{arith, refl}
use Rattle.port_log.proofs.Wholing.{told-always, stand-both, whole-told, both-hear, reads, own-at}
use Rattle.port_log.proofs.ports.Ports.read_whole.Goals as goal

pub invariant_of-whole : goal.invariant_of-whole
invariant_of-whole c =
    let t = told-always _ _ c.args.side _ c.whole.invariant c.read_by-answer.ensures.held c.read_by-answer.ensures.told in
    let met = c.meet-whole-inside.ensures in
    stand-both c.whole.invariant t _ _ met.console met.sound

pub returns-clause-answer : goal.returns-clause-answer
returns-clause-answer c =
    let t = told-always _ _ c.args.side _ c.whole.invariant c.read_by-answer.ensures.held c.read_by-answer.ensures.told in
    rw (← c.whole.view_is) (reads c.whole.invariant t _ _ _ _ _ _ c.as_of_log.ensures t.answers)

pub returns-clause-whole : goal.returns-clause-whole
returns-clause-whole c =
    let t = told-always _ _ c.args.side _ c.whole.invariant c.read_by-answer.ensures.held c.read_by-answer.ensures.told in
    rw (← c.whole.view_is) (whole-told c.whole.invariant t _ _ _ _ refl (own-at c.args.side c.whole.inside.seats _ _))

pub returns-clause-hears : goal.returns-clause-hears
returns-clause-hears c =
    let t = told-always _ _ c.args.side _ c.whole.invariant c.read_by-answer.ensures.held c.read_by-answer.ensures.told in
    rw (← c.whole.view_is) (both-hear c.whole.invariant t _ _ (omega arith) tt)
