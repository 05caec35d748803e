use Rattle.port_log.proofs.Holding.{held-in-order}
use Rattle.port_log.proofs.port_log.PortLog.found.Goals as goal

pub found-requires-clause-order : goal.found-requires-clause-order
found-requires-clause-order c = held-in-order c.self.invariant.console

pub found-requires-in-Sound-clause-order : goal.found-requires-in-Sound-clause-order
found-requires-in-Sound-clause-order c = held-in-order c.self.invariant.sound
