use Rattle.std.proofs.Common.{ap, ◌∙◌}
use Rattle.console_bus.specs.BusState.{BusState}
use Rattle.console_bus.specs.Places.{chip_written}
use Rattle.console_bus.specs.contracts.bus.Bus.{the_view}
use Rattle.console_bus.proofs.Arithmetic.{arithmetic_written}
use Rattle.console_bus.proofs.bus.Bus.write_arithmetic.Goals as goal

pub returns-clause-written : goal.returns-clause-written
returns-clause-written c =
    let r : BusState = the_view c.self.inside in
    let n = c.args.register in
    ap (λ io. record r { io = io }) c.write.ensures
    ∙ arithmetic_written r n c.args.v c.requires.first c.requires.last c.self.invariant.4
    ∙ ap (λ b. chip_written b n c.args.v) c.self.view_is
