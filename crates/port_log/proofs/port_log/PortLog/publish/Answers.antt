use Rattle.snes_defs.specs.declared.ports.Side.TheVariants.{Console, Sound}
use Rattle.port_log.proofs.Holding.{kept-published}
use Rattle.port_log.proofs.port_log.PortLog.publish.Goals as goal

pub invariant_of-self : goal.invariant_of-self
invariant_of-self c =
    let rises = rw (c.in-Console.is, ← c.self.view_is) at c.requires in
    rw c.publish.ensures (kept-published Console _ c.args.clock c.self.invariant rises)

pub invariant_of-self-in-Sound : goal.invariant_of-self-in-Sound
invariant_of-self-in-Sound c =
    let rises = rw (c.in-Sound.is, ← c.self.view_is) at c.requires in
    rw c.publish-in-Sound.ensures (kept-published Sound _ c.args.clock c.self.invariant rises)
