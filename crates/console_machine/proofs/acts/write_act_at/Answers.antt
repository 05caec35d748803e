use Rattle.std.proofs.Common.{ap, ◌∙◌}
use Rattle.console_bus.specs.Places.{place_at}
use Rattle.console_steps.specs.Targets.{write_act}
use Rattle.console_steps.proofs.Targets.{write_act_there}
use Rattle.console_machine.proofs.acts.write_act_at.Goals as goal

pub returns-clause-value : goal.returns-clause-value
returns-clause-value c =
    let board = c.args.bus.now.board in
    c.write_act.ensures.value ∙ ap (λ t. write_act t c.args.v) c.look_up-access.ensures.target ∙ write_act_there board (place_at board c.args.addr) c.args.v
