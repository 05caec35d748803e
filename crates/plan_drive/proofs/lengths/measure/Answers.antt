use Rattle.std.proofs.Common.{◌≤◌, ◌+◌, ◌-◌, drop, replicate, ap, sym, subst, ◌∙◌}
use Rattle.input_files.specs.declared.plan.PlanStep.TheVariants.{Go, Keep, Back, Reset}
use Rattle.input_files.specs.Plan.{frames_in, NamesBelow}
use Rattle.plan_drive.specs.Samples.{samples_to}
use Rattle.plan_drive.proofs.Counting.{Counted, counted_first, counted_go, counted_keep, counted_back, counted_reset, counted_same, next_step}
use Rattle.plan_drive.proofs.lengths.measure.Goals.{in-Go, in-Keep, in-Back, in-Reset}
use Rattle.plan_drive.proofs.lengths.measure.Goals as goal

pub loop-step-init : goal.loop-step-init
loop-step-init c = record {
  counted = subst (λ s. Counted c.region-region.result c.args.plan.now.steps s 0 0 0 (replicate 8 0)) (sym c.steps-step-items.ensures.all) (counted_first c.region-region.result c.args.plan.now.steps);
  few = subst (λ s. frames_in s ≤ 36000) (sym c.steps-step-items.ensures.all) c.steps-step-items.ensures.few;
  names = subst (NamesBelow 8) (sym c.steps-step-items.ensures.all) c.steps-step-items.ensures.slots;
}

pub loop-step-preserved : goal.loop-step-preserved
loop-step-preserved c =
    let region = c.region-region.result in
    let steps = c.args.plan.now.steps in
    let items = c.steps-step-items.result.now in
    let i = c.loop-step.step-index in
    let rest = drop (i + 1) items in
    let frames = c.loop-step.frames in
    let samples = c.loop-step.samples in
    let path = c.loop-step.path in
    let held = c.loop-step.held in
    elim c.match-step.branch [
      | in-Go w ↦
          let here = next_step items i (Go 0 0 0) (Go w.in-Go.count w.in-Go.pad1 w.in-Go.pad2) c.loop-step-test.true w.in-Go.is in
          let counted = counted_go region steps rest frames samples path held w.in-Go.count w.in-Go.pad1 w.in-Go.pad2 (subst (λ s. Counted region steps s frames samples path held) here c.loop-step.invariant.counted) in
          let more = w.samples-is
          ∙ ap (λ n. samples + (n - w.samples_to-in-Go.result)) w.samples_to.ensures
          ∙ ap (λ n. samples + (samples_to region (path + w.in-Go.count) - n)) w.samples_to-in-Go.ensures in
          record {
            counted = counted_same region steps rest _ _ _ c.match-step.frames c.match-step.samples c.match-step.path held c.match-step.held w.frames-is more w.path-is w.held-is counted;
            few = c.loop-step.invariant.few;
            names = subst (NamesBelow 8) here c.loop-step.invariant.names;
          }
      | in-Keep w ↦
          let here = next_step items i (Go 0 0 0) (Keep w.in-Keep.slot) c.loop-step-test.true w.in-Keep.is in
          let names = subst (NamesBelow 8) here c.loop-step.invariant.names in
          let counted = counted_keep region steps rest frames samples path held w.in-Keep.slot names.0 (subst (λ s. Counted region steps s frames samples path held) here c.loop-step.invariant.counted) in
          record {
            counted = counted_same region steps rest frames samples path c.match-step.frames c.match-step.samples c.match-step.path _ c.match-step.held w.frames-is w.samples-is w.path-is w.held-is counted;
            few = c.loop-step.invariant.few;
            names = names.1;
          }
      | in-Back w ↦
          let here = next_step items i (Go 0 0 0) (Back w.in-Back.slot) c.loop-step-test.true w.in-Back.is in
          let names = subst (NamesBelow 8) here c.loop-step.invariant.names in
          let counted = counted_back region steps rest frames samples path held w.in-Back.slot 0 names.0 (subst (λ s. Counted region steps s frames samples path held) here c.loop-step.invariant.counted) in
          record {
            counted = counted_same region steps rest frames samples _ c.match-step.frames c.match-step.samples c.match-step.path held c.match-step.held w.frames-is w.samples-is w.path-is w.held-is counted;
            few = c.loop-step.invariant.few;
            names = names.1;
          }
      | in-Reset w ↦
          let here = next_step items i (Go 0 0 0) Reset c.loop-step-test.true w.in-Reset.is in
          let counted = counted_reset region steps rest frames samples path held (subst (λ s. Counted region steps s frames samples path held) here c.loop-step.invariant.counted) in
          record {
            counted = counted_same region steps rest frames samples path c.match-step.frames c.match-step.samples c.match-step.path held c.match-step.held w.frames-is w.samples-is w.path-is w.held-is counted;
            few = c.loop-step.invariant.few;
            names = subst (NamesBelow 8) here c.loop-step.invariant.names;
          }
    ]
