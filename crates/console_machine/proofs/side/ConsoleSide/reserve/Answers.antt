use Rattle.std.proofs.Common.{◌+◌, length, max}
use Rattle.console_machine.specs.Parts.{value_of}
use Rattle.console_machine.proofs.Copies.{reserved}
use Rattle.console_machine.proofs.side.ConsoleSide.reserve.Goals as goal

pub invariant_of-self : goal.invariant_of-self
invariant_of-self c =
    let v = value_of c.self.inside.parts in (
      reserved v c.reserve.new.self (max v.rest.script.room (length v.rest.script.spans + c.args.spans)) c.reserve.result c.reserve.ensures.ok c.reserve.ensures.err c.self.invariant.0,
      c.self.invariant.1,
      c.self.invariant.2,
    )
