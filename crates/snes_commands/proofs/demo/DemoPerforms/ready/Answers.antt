use Rattle.std.proofs.Common.{arith}
use Rattle.run_io.specs.Form.{order_by}
use Rattle.snes_commands.proofs.DemoLemmas.{few, demo_can}
use Rattle.snes_commands.proofs.demo.DemoPerforms.ready.Goals as goal

pub ready_turns-requires : goal.ready_turns-requires
ready_turns-requires g c = let le = few (order_by c.args.asked.now) c.requires in let is = c.in_ok-job.ensures.frames_are in omega arith

pub returns-clause-ready : goal.returns-clause-ready
returns-clause-ready g c = λ told reads. (c.in_ok-job.job, c.in_ok-job.ensures, c.in_ok-turning.ensures.starts, c.in_ok-turning.ensures.ends)

pub returns-clause-makes : goal.returns-clause-makes
returns-clause-makes g c = λ told reads. demo_can g.P.Player.emits (order_by c.args.asked.now) told c.in_ok-job.job c.in_ok-job.ensures c.in_ok-turning.ensures.ends
