use Rattle.std.proofs.Common.{◌≡◌}
use Rattle.input_files.specs.Plan.{plan_of, plan_on}
use Rattle.input_files.proofs.plan.read_plan.Given as goal

-- the plan of the whole file is what the lines that are left add to what was read
abbrev pub invariant-loop-line : goal.invariant-loop-line
invariant-loop-line l = plan_of l.fn.file ≡ plan_on l.line-iterator l.number l.planning
