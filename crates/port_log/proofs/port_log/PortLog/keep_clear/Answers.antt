use Rattle.snes_defs.specs.declared.ports.Side.TheVariants.{Console, Sound}
use Rattle.port_log.proofs.Holding.{kept-cleared}
use Rattle.port_log.proofs.port_log.PortLog.keep_clear.Goals as goal

pub invariant_of-self : goal.invariant_of-self
invariant_of-self c =
    let settled = rw (c.in-Console.is, ← c.self.view_is) at c.requires in
    rw c.clear.ensures (kept-cleared Console _ c.args.at c.args.mask c.self.invariant settled)

pub invariant_of-self-in-Sound : goal.invariant_of-self-in-Sound
invariant_of-self-in-Sound c =
    let settled = rw (c.in-Sound.is, ← c.self.view_is) at c.requires in
    rw c.clear-in-Sound.ensures (kept-cleared Sound _ c.args.at c.args.mask c.self.invariant settled)
