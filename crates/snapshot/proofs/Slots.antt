-- One more run in a list of runs that each hold a path.
use Rattle.std.proofs.Common.{◌≡◌, ◌+◌, ◌<◌, ℕ, List, [], ◌∷◌, ◌++◌, length, length-append, slice_index_or, sym, subst, ⊎_elim, arith}
use Rattle.std.proofs.lemmas.Bool.{cases_lt}
use Rattle.std.proofs.Math.ListN.{get_or-append}
use Rattle.std.proofs.Math.Seq.{get_or-append_seam}
use Rattle.snes_defs.specs.declared.cart.Job.{Job}
use Rattle.plan_drive.specs.Paths.{Path}
use Rattle.snapshot.specs.declared.run.Run.{Run}
use Rattle.snapshot.specs.Positions.{HoldsPath}

pub one_more : (job : Job) (n : ℕ) (path : Path) (runs : List Run) (run : Run)
    → ((k : ℕ) (other : Run) → k < length runs → HoldsPath job n path (slice_index_or runs k other)) → HoldsPath job n path run
    → (k : ℕ) (other : Run) → k < length (runs ++ run ∷ []) → HoldsPath job n path (slice_index_or (runs ++ run ∷ []) k other)
one_more job n path runs run are new k other below =
    let size : length (runs ++ run ∷ []) ≡ length runs + 1 = length-append runs (run ∷ []) in
    ⊎_elim
    (λ before. subst (HoldsPath job n path) (sym (get_or-append runs (run ∷ []) other k before)) (are k other before))
    (λ last. (
    let end : k ≡ length runs = omega (arith, below, size, last) in
    subst (λ m. HoldsPath job n path (slice_index_or (runs ++ run ∷ []) m other)) (sym end) (subst (HoldsPath job n path) (sym (get_or-append_seam runs run [] other)) new)))
    (cases_lt k (length runs))
