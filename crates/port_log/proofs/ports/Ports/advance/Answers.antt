use Rattle.port_log.proofs.Passing.{stands, hears}
use Rattle.port_log.proofs.ports.Ports.advance.Goals as goal

pub invariant_of-pass : goal.invariant_of-pass
invariant_of-pass c = stands _ _ _ _ c.pass.invariant _ c.advance_by-answer.ensures.held c.advance_by-answer.ensures.told

pub returns-clause-hears : goal.returns-clause-hears
returns-clause-hears c =
    rw (← c.pass.view_is) (hears _ _ _ _ c.pass.invariant _ c.pass.inside.counts _ c.advance_by-answer.ensures.held c.advance_by-answer.ensures.told)
