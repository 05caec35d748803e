use Rattle.port_log.proofs.Stands.{stands-cleared}
use Rattle.port_log.proofs.port_log.PortLog.clear.Goals as goal

pub returns-clause-stands : goal.returns-clause-stands
returns-clause-stands c = λ entries s.
    let settled = rw (c.clock-other.ensures, c.across.ensures) at (c.if-is_behind.ensures.settled) in
    rw c.keep_clear.ensures.kept
    (stands-cleared c.args.side c.args.self.now entries c.args.at c.args.mask c.keep_clear.ensures.was_kept c.requires.own_clock settled s)
