use Rattle.std.proofs.Common.{arith}
use Rattle.run_io.specs.Form.{order_by}
use Rattle.snes_commands.proofs.CheckLemmas.{few, check_can}
use Rattle.snes_commands.proofs.check.CheckPerforms.ready.Goals as goal

pub ready-requires : goal.ready-requires
ready-requires g c = let le = few (order_by c.args.asked.now) c.requires in let is = c.job_of-job.ensures.frames in omega arith

pub new-requires : goal.new-requires
new-requires g c = let le = few (order_by c.args.asked.now) c.requires in let is = c.job_of-job.ensures.frames in omega arith

pub line_of_run-line-requires : goal.line_of_run-line-requires
line_of_run-line-requires g c = let le = few (order_by c.args.asked.now) c.requires in let is = c.job_of-job.ensures.frames in omega arith

pub returns-clause-ready : goal.returns-clause-ready
returns-clause-ready g c = λ told reads. (
  c.job_of-job.result,
  c.job_of-job.ensures.shows told reads.0,
  reads.1,
  c.in_ok-player.ensures.starts,
  c.in_ok-player.ensures.ends,
  c.in_ok-sums.ensures,
  c.line_of_run-line.ensures,
)

pub returns-clause-makes : goal.returns-clause-makes
returns-clause-makes g c = λ told reads.
    check_can g.P.Player.emits (order_by c.args.asked.now) told c.job_of-job.result (c.job_of-job.ensures.shows told reads.0) c.args.inputs.1 reads.1 c.in_ok-player.ensures.ends
