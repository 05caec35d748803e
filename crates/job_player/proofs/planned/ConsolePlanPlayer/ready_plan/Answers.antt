use Rattle.std.proofs.Common.{ℕ, subst, rules, arith}
use Rattle.run_drive.specs.Played.{IsPlayable}
use Rattle.plan_drive.specs.Paths.{no_paths}
use Rattle.plan_drive.specs.Joins.{Joins}
use Rattle.snapshot.specs.Path.{PathEmits}
use Rattle.snapshot.specs.Positions.{IsRested}
use Rattle.job_player.proofs.Planning.{room_for, own_script, playable}
use Rattle.job_player.proofs.planned.ConsolePlanPlayer.ready_plan.Goals as goal

pub new-requires : goal.new-requires
new-requires c = record { script = own_script c.args.job.now c.requires.script }

pub returns-clause-starts : goal.returns-clause-starts
returns-clause-starts c =
    let job = c.args.job.now in
    let slots = c.in_ok-rewind.ensures.slots in (
      subst (λ (n : ℕ). IsRested job n no_paths c.in_ok-rewind.rewind) (room_for job c.args.plan.now.steps c.requires.script) c.in_ok-rewind.ensures.rested,
      omega (arith, slots),
      search rules,
    )

pub returns-clause-ends : goal.returns-clause-ends
returns-clause-ends c =
    let job = c.args.job.now in
    let steps = c.args.plan.now.steps in
    playable job steps
    (subst (λ (n : ℕ). IsPlayable (Joins (PathEmits job n) steps no_paths)) (room_for job steps c.requires.script) c.in_ok-rewind.ensures.ends)
