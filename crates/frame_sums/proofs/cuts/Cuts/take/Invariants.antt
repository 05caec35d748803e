use Rattle.std.proofs.Common.{◌≡◌, ◌+◌, ◌-◌, ℕ, List, ◌++◌, length}
use Rattle.frame_sums.specs.Digests.{AreCut}
use Rattle.frame_sums.proofs.cuts.Cuts.take.Given as goal

-- what is taken so far, and what is left, are all bytes
abbrev pub invariant-cutting : goal.invariant-cutting
invariant-cutting l = record {
  of : l.self.of ≡ l.fn.self.of;
  taken : (had : List ℕ) → AreCut l.fn.self had → (first : List ℕ) × (first ++ l.rest ≡ l.bytes) × AreCut l.self (had ++ first);
}

abbrev pub decreases-cutting : goal.decreases-cutting
decreases-cutting l = length l.rest + (l.self.of.frames - l.self.done)
