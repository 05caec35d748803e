use Rattle.port_log.proofs.Passing.{stands, hears}
use Rattle.port_log.proofs.ports.Ports.write.Goals as goal

pub invariant_of-pass : goal.invariant_of-pass
invariant_of-pass c = stands _ _ _ _ c.pass.invariant _ c.write_by-answer.ensures.held c.write_by-answer.ensures.told

pub returns-clause-hears : goal.returns-clause-hears
returns-clause-hears c =
    rw (← c.pass.view_is) (hears _ _ _ _ c.pass.invariant _ c.pass.inside.counts _ c.write_by-answer.ensures.held c.write_by-answer.ensures.told)
