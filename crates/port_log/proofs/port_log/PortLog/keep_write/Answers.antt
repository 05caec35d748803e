use Rattle.snes_defs.specs.declared.ports.Side.TheVariants.{Console, Sound}
use Rattle.port_log.proofs.Holding.{kept-written}
use Rattle.port_log.proofs.port_log.PortLog.keep_write.Goals as goal

pub invariant_of-self : goal.invariant_of-self
invariant_of-self c =
    let own = rw (c.in-Console.is, ← c.self.view_is) at c.requires.own_clock in
    let rises = rw (← c.self.view_is) at c.requires.rises in
    let within = rw (c.in-Console.is, ← c.self.view_is) at c.requires.within in
    rw (c.publish.ensures, c.receive.ensures)
    (kept-written Console _ c.args.write c.args.clock c.self.invariant c.requires.port own rises within)

pub invariant_of-self-in-Sound : goal.invariant_of-self-in-Sound
invariant_of-self-in-Sound c =
    let own = rw (c.in-Sound.is, ← c.self.view_is) at c.requires.own_clock in
    let rises = rw (← c.self.view_is) at c.requires.rises in
    let within = rw (c.in-Sound.is, ← c.self.view_is) at c.requires.within in
    rw (c.publish-in-Sound.ensures, c.receive-in-Sound.ensures)
    (kept-written Sound _ c.args.write c.args.clock c.self.invariant c.requires.port own rises within)

pub returns-in-Console-clause-few : goal.returns-in-Console-clause-few
returns-in-Console-clause-few c =
    let own = rw (c.in-Console.is, ← c.self.view_is) at c.requires.own_clock in
    let rises = rw (← c.self.view_is) at c.requires.rises in
    let within = rw (c.in-Console.is, ← c.self.view_is) at c.requires.within in
    let kept = kept-written Console _ c.args.write c.args.clock c.self.invariant c.requires.port own rises within in
    rw (c.in-Console.is, c.receive.ensures) kept.sound.few

pub returns-in-Sound-clause-few : goal.returns-in-Sound-clause-few
returns-in-Sound-clause-few c =
    let own = rw (c.in-Sound.is, ← c.self.view_is) at c.requires.own_clock in
    let rises = rw (← c.self.view_is) at c.requires.rises in
    let within = rw (c.in-Sound.is, ← c.self.view_is) at c.requires.within in
    let kept = kept-written Sound _ c.args.write c.args.clock c.self.invariant c.requires.port own rises within in
    rw (c.in-Sound.is, c.receive-in-Sound.ensures) kept.console.few
