use Rattle.port_log.specs.Events.{entries_of}
use Rattle.port_log.proofs.ports.Ports.leave.Given as goal

abbrev pub ghosts-tell : goal.ghosts-tell
ghosts-tell a = record { entries = entries_of a.event; clock = a.clock }
