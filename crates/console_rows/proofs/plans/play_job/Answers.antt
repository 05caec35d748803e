use Rattle.std.proofs.Common.{ℕ, max, arith}
use Rattle.plan_drive.specs.Paths.{room_of}
use Rattle.console_rows.proofs.plans.play_job.Goals as goal

pub play-requires-clause-rested : goal.play-requires-clause-rested
play-requires-clause-rested c = (c.args.job.now, max c.args.job.now.script.room (room_of c.args.plan.now.steps), c.in_ok-rewind.ensures.rested, omega arith)
