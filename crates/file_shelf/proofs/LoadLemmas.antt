-- A fault of a load changes nothing but the count of such faults.
use Rattle.std.proofs.Common.{◌≡◌, ℕ, ◌+◌, ◌≤◌, ◌^◌, nat_lt, if◌then◌else◌, true, false, refl, sym, subst, arith}
use Rattle.shelf.specs.Counts.{next}
use Rattle.shelf.specs.Shown.{OnlyLoads}
use Rattle.file_shelf.specs.Edge.{Edge}
use Rattle.file_shelf.specs.Shelves.{shown_by_files}

-- a count does not fall
next_up : (n : ℕ) → n ≤ next n
next_up n =
    elim (nat_lt (n + 1) (2 ^ 64)) as (λ b. n ≤ (if b then n + 1 else n)) [
      | true ↦ omega arith
      | false ↦ omega arith
    ]

pub only_counts : (a b : Edge) → b ≡ record a { loads = next a.loads } → OnlyLoads (shown_by_files a) (shown_by_files b)
only_counts a b is =
    subst (λ (e : Edge). OnlyLoads (shown_by_files a) (shown_by_files e)) (sym is)
    (record { held = refl; written = refl; named = refl; unwritten = refl; write_faults = refl; load_faults = λ name. next_up a.loads })
