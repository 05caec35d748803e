use Rattle.run_io.specs.Form.{order_by}
use Rattle.snes_commands.proofs.Ending.{call_ends}
use Rattle.snes_commands.proofs.calling.commanded.Goals as goal

pub returns : goal.returns
returns g c =
    call_ends g.C.Performs.command (order_by c.args.asked.now) _ _ _ g.met.C.Performs.outputs_apart c.perform-outcome.ensures.only c.say.ensures.only
    c.perform-outcome.result c.say.result c.perform-outcome.ensures.done c.perform-outcome.ensures.ends c.say.ensures.done c.say.ensures.not_done c.say.ensures.said
