use Rattle.std.proofs.Common.{◌≡◌, ◌≤◌, vec_len, arith}
use Rattle.snes_defs.specs.declared.cart.Job.{Job}
use Rattle.run_drive.specs.Played.{PlayedWhole}
use Rattle.plan_drive.specs.Paths.{no_paths, room_of, slots_of}
use Rattle.plan_drive.specs.Joins.{PlanEmits}
use Rattle.snapshot.specs.Positions.{IsRested, slot_count}
use Rattle.job_player.specs.Start.{Emits}
use Rattle.job_player.proofs.Planning.{played_plan, played_some}
use Rattle.job_player.proofs.Plays.{on_ok}
use Rattle.job_player.proofs.planned.ConsolePlanPlayer.play_plan.Goals as goal

pub play-requires-clause-rested : goal.play-requires-clause-rested
play-requires-clause-rested g c =
    let h = c.requires.at_start in
    (h.0, room_of c.args.plan.now.steps, h.1.0, omega arith)

pub play-requires-clause-slots : goal.play-requires-clause-slots
play-requires-clause-slots g c = c.requires.at_start.1.1

pub returns-clause-whole : goal.returns-clause-whole
returns-clause-whole g c =
    let steps = c.args.plan.now.steps in
    let r = c.args.planned.rewind in
    on_ok {Q = (job : Job) → (IsRested job (room_of steps) no_paths r × (slots_of steps ≤ slot_count r) × (vec_len c.args.planned.buffer ≡ 65536)) → PlayedWhole (PlanEmits Emits job steps) (g.K.Sink.holds c.play.new.sink)}
    _ c.play.ensures.whole
    (λ whole job h. played_plan job steps (g.K.Sink.holds c.play.new.sink) (whole job (room_of steps) h.0))

pub returns-clause-first : goal.returns-clause-first
returns-clause-first g c = λ job h.
    played_some job c.args.plan.now.steps (g.K.Sink.holds c.play.new.sink)
    (c.play.ensures.first job (room_of c.args.plan.now.steps) h.0)
