use Rattle.std.proofs.Common.{max, Result, Ok, Err, IfOk, OnOk, ap, subst, ◌∙◌}
use Rattle.plan_drive.specs.Paths.{no_paths, room_of}
use Rattle.snapshot.specs.Positions.{IsRested}
use Rattle.snapshot.proofs.Steps.{plan_emits}
use Rattle.snapshot.proofs.rewind.Rewind.new.Goals as goal

-- what holds in any case
in_any_case : {T E P : Type 0} (result : Result T E) → P → OnOk result P
in_any_case (Ok value) h = h
in_any_case (Err error) h = tt

pub returns-clause-rested : goal.returns-clause-rested
returns-clause-rested c =
    let job = c.args.job.now in
    subst (λ room. IfOk c.with_room.result (λ r. IsRested job (max job.script.room room) no_paths r)) (c.count_room-room.ensures ∙ ap room_of c.steps.ensures.all) c.with_room.ensures.rested

pub returns-clause-ends : goal.returns-clause-ends
returns-clause-ends c =
    let job = c.args.job.now in
    in_any_case c.with_room.result (plan_emits job (max job.script.room (room_of c.args.plan.now.steps)) c.args.plan.now.steps c.steps.ensures.few)
