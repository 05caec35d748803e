-- A put to one output, as a sink sees it.
use Rattle.std.proofs.Common.{◌≢◌, ℕ, List, sym, subst, Option}
use Rattle.snes_defs.specs.declared.ports.Side.{Side}
use Rattle.shelf.specs.Told.{Holds}
use Rattle.shelf.specs.Shown.{Shown, OnlyPuts}
use Rattle.run_drive.specs.Outputs.{output_of}
use Rattle.run_drive.specs.OutputLaws.{put_fills, other_output}

-- a put leaves the bytes of the other side
pub other_holds : (a b : Shown) (side other : Side) (had : List ℕ) → OnlyPuts a b (output_of side) → other ≢ side
    → Holds (a.written (output_of other)) had → Holds (b.written (output_of other)) had
other_holds a b side other had only differ h =
    subst (λ (w : Option (List ℕ)). Holds w had) (sym (only.others (output_of other) (other_output side other differ)).written) h

pub ruleset puts = (put_fills, other_holds)
