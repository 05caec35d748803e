use Rattle.std.proofs.Common.{arith}
use Rattle.run_io.specs.Form.{order_by}
use Rattle.snes_commands.proofs.RunLemmas.{few, run_can}
use Rattle.snes_commands.proofs.run.RunPerforms.ready.Goals as goal

pub machines_by-requires : goal.machines_by-requires
machines_by-requires g c = let le = few (order_by c.args.asked.now) c.requires in let is = c.job_of-job.ensures.frames in omega arith

pub line_of_run-line-requires : goal.line_of_run-line-requires
line_of_run-line-requires g c = let le = few (order_by c.args.asked.now) c.requires in let is = c.job_of-job.ensures.frames in omega arith

pub returns-clause-ready : goal.returns-clause-ready
returns-clause-ready g c = λ told reads. (c.job_of-job.result, c.job_of-job.ensures.shows told reads, c.in_ok-machines.ensures.starts, c.in_ok-machines.ensures.ends, c.line_of_run-line.ensures)

pub returns-clause-makes : goal.returns-clause-makes
returns-clause-makes g c = λ told reads. run_can g.P.Player.emits (order_by c.args.asked.now) told c.job_of-job.result (c.job_of-job.ensures.shows told reads) c.in_ok-machines.ensures.ends
