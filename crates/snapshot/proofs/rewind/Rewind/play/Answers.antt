use Rattle.std.proofs.Common.{◌+◌, drop, drop_of_length-le, sym, subst, ◌∙◌, rules, arith}
use Rattle.input_files.specs.declared.plan.PlanStep.TheVariants.{Go, Keep, Back, Reset}
use Rattle.input_files.specs.Plan.{NamesBelow}
use Rattle.plan_drive.specs.Paths.{no_paths, after_step}
use Rattle.plan_drive.specs.Joins.{Joins}
use Rattle.plan_drive.proofs.Counting.{next_step}
use Rattle.snapshot.specs.Path.{PathEmits}
use Rattle.snapshot.specs.Positions.{slot_count}
use Rattle.run_drive.specs.Driven.{by_side}
use Rattle.snapshot.proofs.Steps.{Reached, reached_first, reached_go, reached_part, reached_keep, reached_back, reached_reset, reached_whole, reached_rested, reached_stepped, whole_is_first, names_below}
use Rattle.snapshot.proofs.rewind.Rewind.play.Goals.{in-Go+in-Ok, in-Keep, in-Back, in-Reset}
use Rattle.snapshot.proofs.rewind.Rewind.play.Goals as goal

pub loop-step-init : goal.loop-step-init
loop-step-init g c = record {
  reached = λ job n rested.
      subst (λ s. Reached job n c.args.plan.now.steps s (g.K.Sink.holds c.args.sink.now) c.args.self.now c.args.self.now) (sym c.steps-step-items.ensures.all)
      (reached_first job n c.args.plan.now.steps (g.K.Sink.holds c.args.sink.now) c.args.self.now rested c.requires.no_video c.requires.no_audio (omega (arith, c.stepped-count.ensures)));
  names = subst (NamesBelow (slot_count c.args.self.now)) (sym c.steps-step-items.ensures.all) (names_below c.args.plan.now.steps (slot_count c.args.self.now) c.requires.slots);
  only = search rules;
}

pub begin-requires : goal.begin-requires
begin-requires g c =
    let (job, n, rested, fits) = c.requires.rested in
    let items = c.steps-step-items.result.now in
    let here = next_step items c.loop-step.step-index (Go 0 0 0) (Go c.in-Go.count c.in-Go.pad1 c.in-Go.pad2) c.loop-step-test.true c.in-Go.is in
    let r = subst (λ s. Reached job n c.args.plan.now.steps s (g.K.Sink.holds c.loop-step.sink) c.args.self.now c.loop-step.self) here (c.loop-step.invariant.reached job n rested) in
    let spans = r.spans in
    let goes = r.goes_left in
    let lasts = r.within.path in
    let frames = r.frames_left in
    let few = c.steps-step-items.ensures.few in
    record { rested = (job, n, r.paths, r.rested, omega (arith, spans, goes, fits), omega (arith, lasts, frames, few)) }

pub go_on-requires-clause-going : goal.go_on-requires-clause-going
go_on-requires-clause-going g c =
    let (job, n, rested, fits) = c.requires.rested in
    let r = c.loop-step.invariant.reached job n rested in
    (job, n, after_step r.paths (Go c.in-Go.count c.in-Go.pad1 c.in-Go.pad2), r.paths.path, c.begin.ensures.going job n r.paths r.rested)

pub keep-requires-clause-rested : goal.keep-requires-clause-rested
keep-requires-clause-rested g c =
    let (job, n, rested, fits) = c.requires.rested in
    let r = c.loop-step.invariant.reached job n rested in
    (job, n, r.paths, r.rested)

pub back-requires-clause-rested : goal.back-requires-clause-rested
back-requires-clause-rested g c =
    let (job, n, rested, fits) = c.requires.rested in
    let r = c.loop-step.invariant.reached job n rested in
    (job, n, r.paths, r.rested)

pub reset_if_may-requires : goal.reset_if_may-requires
reset_if_may-requires g c =
    let (job, n, rested, fits) = c.requires.rested in
    let items = c.steps-step-items.result.now in
    let here = next_step items c.loop-step.step-index (Go 0 0 0) Reset c.loop-step-test.true c.in-Reset.is in
    let r = subst (λ s. Reached job n c.args.plan.now.steps s (g.K.Sink.holds c.loop-step.sink) c.args.self.now c.loop-step.self) here (c.loop-step.invariant.reached job n rested) in
    let resets = r.resets in
    let goes = r.goes_left in
    record { rested = (job, n, r.paths, r.rested, omega (arith, resets, goes, fits)) }

pub returns-in-Err-clause-first : goal.returns-in-Err-clause-first
returns-in-Err-clause-first g c = λ job n rested.
    let items = c.steps-step-items.result.now in
    let i = c.loop-step.step-index in
    let here = next_step items i (Go 0 0 0) (Go c.in-Go.count c.in-Go.pad1 c.in-Go.pad2) c.loop-step-test.true c.in-Go.is in
    let r = subst (λ s. Reached job n c.args.plan.now.steps s (g.K.Sink.holds c.loop-step.sink) c.args.self.now c.loop-step.self) here (c.loop-step.invariant.reached job n rested) in
    reached_part job n c.args.plan.now.steps (drop (i + 1) items) (g.K.Sink.holds c.loop-step.sink) (g.K.Sink.holds c.go_on.new.sink) c.args.self.now c.loop-step.self c.loop-step.self
    c.in-Go.count c.in-Go.pad1 c.in-Go.pad2 r c.steps-step-items.ensures.few
    (c.in-Err.ensures.some job n (after_step r.paths (Go c.in-Go.count c.in-Go.pad1 c.in-Go.pad2)) r.paths.path (by_side r.video r.audio) (c.begin.ensures.going job n r.paths r.rested) r.video_taken r.audio_taken)

pub loop-step-preserved : goal.loop-step-preserved
loop-step-preserved g c =
    let steps = c.args.plan.now.steps in
    let items = c.steps-step-items.result.now in
    let i = c.loop-step.step-index in
    let rest = drop (i + 1) items in
    let holds = g.K.Sink.holds in
    let was = c.loop-step.self in
    elim c.match-step.branch [
      | in-Go+in-Ok w ↦
          let step = Go w.in-Go.count w.in-Go.pad1 w.in-Go.pad2 in
          let here = next_step items i (Go 0 0 0) step c.loop-step-test.true w.in-Go.is in
          record {
            reached = λ job n rested.
                let r = subst (λ s. Reached job n steps s (holds c.loop-step.sink) c.args.self.now was) here (c.loop-step.invariant.reached job n rested) in
                let done = reached_go job n steps rest (holds c.loop-step.sink) (holds w.go_on.new.sink) c.args.self.now was w.go_on.new.self w.in-Go.count w.in-Go.pad1 w.in-Go.pad2 w.begin.new.self r
                (w.in-Ok.ensures.whole job n (after_step r.paths step) r.paths.path (by_side r.video r.audio) (w.begin.ensures.going job n r.paths r.rested) r.video_taken r.audio_taken) w.begin.ensures.machines w.begin.ensures.waits w.go_on.ensures.steps in
                subst (λ k. Reached job n steps rest (holds k) c.args.self.now c.match-step.self) (sym w.sink-is) (subst (λ v. Reached job n steps rest (holds w.go_on.new.sink) c.args.self.now v) (sym w.self-is) done);
            names = subst (λ v. NamesBelow (slot_count v) rest) (sym w.self-is)
                (subst (λ m. NamesBelow m rest) (sym (w.go_on.ensures.slots ∙ w.begin.ensures.slots)) (subst (NamesBelow (slot_count was)) here c.loop-step.invariant.names));
            only = subst (g.K.Sink.only_takes c.args.sink.now) (sym w.sink-is) (g.met.K.Sink.takes_more _ _ _ c.loop-step.invariant.only w.go_on.ensures.only);
          }
      | in-Keep w ↦
          let here = next_step items i (Go 0 0 0) (Keep w.in-Keep.slot) c.loop-step-test.true w.in-Keep.is in
          record {
            reached = λ job n rested.
                let r = subst (λ s. Reached job n steps s (holds c.loop-step.sink) c.args.self.now was) here (c.loop-step.invariant.reached job n rested) in
                let done = reached_keep job n steps rest (holds c.loop-step.sink) (holds c.loop-step.sink) c.args.self.now was w.keep.new.self w.in-Keep.slot r (w.keep.ensures.kept job n r.paths r.rested) w.keep.ensures.waits in
                subst (λ k. Reached job n steps rest (holds k) c.args.self.now c.match-step.self) (sym w.sink-is) (subst (λ v. Reached job n steps rest (holds c.loop-step.sink) c.args.self.now v) (sym w.self-is) done);
            names = subst (λ v. NamesBelow (slot_count v) rest) (sym w.self-is)
                (subst (λ m. NamesBelow m rest) (sym w.keep.ensures.slots) (subst (NamesBelow (slot_count was)) here c.loop-step.invariant.names).1);
            only = subst (g.K.Sink.only_takes c.args.sink.now) (sym w.sink-is) c.loop-step.invariant.only;
          }
      | in-Back w ↦
          let here = next_step items i (Go 0 0 0) (Back w.in-Back.slot) c.loop-step-test.true w.in-Back.is in
          record {
            reached = λ job n rested.
                let r = subst (λ s. Reached job n steps s (holds c.loop-step.sink) c.args.self.now was) here (c.loop-step.invariant.reached job n rested) in
                let done = reached_back job n steps rest (holds c.loop-step.sink) (holds c.loop-step.sink) c.args.self.now was w.back.new.self w.in-Back.slot r (w.back.ensures.back job n r.paths r.rested) w.back.ensures.waits in
                subst (λ k. Reached job n steps rest (holds k) c.args.self.now c.match-step.self) (sym w.sink-is) (subst (λ v. Reached job n steps rest (holds c.loop-step.sink) c.args.self.now v) (sym w.self-is) done);
            names = subst (λ v. NamesBelow (slot_count v) rest) (sym w.self-is)
                (subst (λ m. NamesBelow m rest) (sym w.back.ensures.slots) (subst (NamesBelow (slot_count was)) here c.loop-step.invariant.names).1);
            only = subst (g.K.Sink.only_takes c.args.sink.now) (sym w.sink-is) c.loop-step.invariant.only;
          }
      | in-Reset w ↦
          let here = next_step items i (Go 0 0 0) Reset c.loop-step-test.true w.in-Reset.is in
          record {
            reached = λ job n rested.
                let r = subst (λ s. Reached job n steps s (holds c.loop-step.sink) c.args.self.now was) here (c.loop-step.invariant.reached job n rested) in
                let done = reached_reset job n steps rest (holds c.loop-step.sink) (holds c.loop-step.sink) c.args.self.now was w.reset_if_may.new.self r (w.reset_if_may.ensures.reset job n r.paths r.rested) w.reset_if_may.ensures.waits in
                subst (λ k. Reached job n steps rest (holds k) c.args.self.now c.match-step.self) (sym w.sink-is) (subst (λ v. Reached job n steps rest (holds c.loop-step.sink) c.args.self.now v) (sym w.self-is) done);
            names = subst (λ v. NamesBelow (slot_count v) rest) (sym w.self-is)
                (subst (λ m. NamesBelow m rest) (sym w.reset_if_may.ensures.slots) (subst (NamesBelow (slot_count was)) here c.loop-step.invariant.names));
            only = subst (g.K.Sink.only_takes c.args.sink.now) (sym w.sink-is) c.loop-step.invariant.only;
          }
    ]

pub returns-clause-whole : goal.returns-clause-whole
returns-clause-whole g c = λ job n rested.
    let items = c.steps-step-items.result.now in
    let over = drop_of_length-le items {i = c.loop-step.step-index} (omega (arith, c.loop-step-test.false)) in
    reached_whole job n c.args.plan.now.steps (g.K.Sink.holds c.loop-step.sink) c.args.self.now c.loop-step.self
    (subst (λ s. Reached job n c.args.plan.now.steps s (g.K.Sink.holds c.loop-step.sink) c.args.self.now c.loop-step.self) over (c.loop-step.invariant.reached job n rested))

pub returns-clause-rested : goal.returns-clause-rested
returns-clause-rested g c = λ job n rested.
    let items = c.steps-step-items.result.now in
    let over = drop_of_length-le items {i = c.loop-step.step-index} (omega (arith, c.loop-step-test.false)) in
    reached_rested job n c.args.plan.now.steps (g.K.Sink.holds c.loop-step.sink) c.args.self.now c.loop-step.self
    (subst (λ s. Reached job n c.args.plan.now.steps s (g.K.Sink.holds c.loop-step.sink) c.args.self.now c.loop-step.self) over (c.loop-step.invariant.reached job n rested))

pub returns-clause-steps : goal.returns-clause-steps
returns-clause-steps g c = λ job n rested.
    let items = c.steps-step-items.result.now in
    let over = drop_of_length-le items {i = c.loop-step.step-index} (omega (arith, c.loop-step-test.false)) in
    reached_stepped job n c.args.plan.now.steps (g.K.Sink.holds c.loop-step.sink) c.args.self.now c.loop-step.self
    (subst (λ s. Reached job n c.args.plan.now.steps s (g.K.Sink.holds c.loop-step.sink) c.args.self.now c.loop-step.self) over (c.loop-step.invariant.reached job n rested))

pub returns-clause-first : goal.returns-clause-first
returns-clause-first g c = λ job n rested.
    let items = c.steps-step-items.result.now in
    let over = drop_of_length-le items {i = c.loop-step.step-index} (omega (arith, c.loop-step-test.false)) in
    whole_is_first (Joins (PathEmits job n) c.args.plan.now.steps no_paths) (g.K.Sink.holds c.loop-step.sink)
    (reached_whole job n c.args.plan.now.steps (g.K.Sink.holds c.loop-step.sink) c.args.self.now c.loop-step.self
    (subst (λ s. Reached job n c.args.plan.now.steps s (g.K.Sink.holds c.loop-step.sink) c.args.self.now c.loop-step.self) over (c.loop-step.invariant.reached job n rested)))
