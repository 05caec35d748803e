use Rattle.std.proofs.Common.{◌∙◌, sym, refl}
use Rattle.port_log.proofs.Wholing.{told-always, stand-both, whole-told, both-hear, clock-is, own-le}
use Rattle.port_log.proofs.ports.Ports.advance_whole.Goals as goal

pub invariant_of-whole : goal.invariant_of-whole
invariant_of-whole c =
    let t = told-always _ _ c.args.side _ c.whole.invariant c.advance_by-answer.ensures.held c.advance_by-answer.ensures.told in
    let met = c.meet-whole-inside.ensures in
    stand-both c.whole.invariant t _ _ met.console met.sound

pub returns-clause-answer : goal.returns-clause-answer
returns-clause-answer c =
    let t = c.in-Ok.ensures.told in
    rw (← c.whole.view_is) (t.answers ∙ sym (clock-is c.whole.invariant t _ _ _))

pub returns-clause-whole : goal.returns-clause-whole
returns-clause-whole c =
    rw (← c.whole.view_is) (whole-told c.whole.invariant c.in-Ok.ensures.told _ _ _ _ refl refl)

pub returns-clause-hears : goal.returns-clause-hears
returns-clause-hears c =
    let t = c.in-Ok.ensures.told in
    let own = own-le _ c.whole.inside.seats _ _ _ (rw (← c.whole.view_is) at c.requires.own_clock) in
    rw (← c.whole.view_is) (both-hear c.whole.invariant t _ _ own tt)
