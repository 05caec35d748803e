use Rattle.port_log.proofs.Stands.{stands-published}
use Rattle.port_log.proofs.port_log.PortLog.advance.Goals as goal

pub returns-clause-stands : goal.returns-clause-stands
returns-clause-stands c = λ entries s.
    rw c.publish.ensures.kept
    (stands-published c.args.side c.args.self.now entries c.args.at c.publish.ensures.was_kept c.requires s)
