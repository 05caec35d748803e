use Rattle.std.proofs.Common.{ap, ◌∙◌}
use Rattle.cpu65816.specs.Stands.{access_of}
use Rattle.console_bus.specs.Places.{on_bus}
use Rattle.console_steps.proofs.Targets.{write_is}
use Rattle.console_steps.proofs.effects.make_write.Goals as goal

pub returns-clause-rest : goal.returns-clause-rest
returns-clause-rest c = λ got.
    let is = write_is c.args.bus.now (access_of c.args.cpu.now) c.requires.addr c.args.v c.args.access.target got c.requires.is
    c.requires.reaches.target c.requires.reaches.lies in
    c.put.ensures ∙ ap (λ q. on_bus q c.args.v) c.write_target.ensures ∙ is
