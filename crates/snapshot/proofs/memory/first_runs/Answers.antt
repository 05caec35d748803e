use Rattle.std.proofs.Common.{◌∷◌, [], ℕ, length, length-append, max, slice_index_or, ◌<◌, ap, subst, sym, ◌∙◌, arith}
use Rattle.snapshot.specs.declared.run.Run.{Run}
use Rattle.snapshot.specs.Positions.{HoldsPath}
use Rattle.plan_drive.specs.Paths.{empty_path}
use Rattle.snapshot.proofs.Slots.{one_more}
use Rattle.snapshot.proofs.memory.first_runs.Goals as goal

pub runs-preserved : goal.runs-preserved
runs-preserved c =
    let job = c.args.job.now in
    let n = max job.script.room c.args.spans in
    let run = c.in_ok-run.run' in
    let size = length-append c.runs.runs.items (run ∷ []) in
    let count = c.runs.invariant.count in
    record {
      count = ap length c.in-Ok.ensures.items ∙ omega arith;
      starts = subst (λ v. (k : ℕ) (other : Run) → k < length v → HoldsPath job n empty_path (slice_index_or v k other)) (sym c.in-Ok.ensures.items)
          (one_more job n empty_path c.runs.runs.items run c.runs.invariant.starts ([], [], c.in_ok-run.ensures.done));
    }
