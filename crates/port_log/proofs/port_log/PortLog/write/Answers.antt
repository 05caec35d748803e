use Rattle.port_log.proofs.Holding.{rises-more}
use Rattle.port_log.proofs.Stands.{stands-written}
use Rattle.port_log.proofs.port_log.PortLog.write.Goals as goal

pub returns-clause-stands : goal.returns-clause-stands
returns-clause-stands c = λ entries s.
    let kept = c.keep_write.ensures in
    rw kept.kept
    (stands-written c.args.side c.args.self.now entries _ c.args.next kept.was_kept c.requires.own_clock
    (rises-more c.args.self.now.region c.args.at c.args.next c.requires.rises) c.requires.port c.ranges.v.fits s)
