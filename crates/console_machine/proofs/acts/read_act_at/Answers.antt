use Rattle.std.proofs.Common.{ap, ◌∙◌}
use Rattle.console_bus.specs.Places.{place_at}
use Rattle.console_steps.specs.Targets.{read_act}
use Rattle.console_steps.proofs.Targets.{read_act_there}
use Rattle.console_machine.proofs.acts.read_act_at.Goals as goal

pub returns-clause-value : goal.returns-clause-value
returns-clause-value c =
    let board = c.args.bus.now.board in
    c.read_act.ensures.value ∙ ap read_act c.look_up-access.ensures.target ∙ read_act_there board (place_at board c.args.addr)
