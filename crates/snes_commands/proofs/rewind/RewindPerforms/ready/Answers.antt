use Rattle.run_io.specs.Form.{order_by}
use Rattle.snes_commands.proofs.RewindLemmas.{rewind_can}
use Rattle.snes_commands.proofs.rewind.RewindPerforms.ready.Goals as goal

pub returns-clause-ready : goal.returns-clause-ready
returns-clause-ready g c = λ told reads. (c.machines_of-job.result.0, c.machines_of-job.ensures.shows told reads, c.in_ok-planned.ensures.starts, c.in_ok-planned.ensures.ends, c.line_of_plan-line.ensures)

pub returns-clause-makes : goal.returns-clause-makes
returns-clause-makes g c = λ told reads. rewind_can g.P.Player.emits (order_by c.args._asked.now) told c.machines_of-job.result.0 c.machines_of-job.result.1 (c.machines_of-job.ensures.shows told reads) c.in_ok-planned.ensures.ends
