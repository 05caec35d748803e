use Rattle.std.proofs.Common.{◌≡◌, ℕ, ◌-◌, ◌%◌, ◌<◌, ◌≤◌, List, slice_index}
use Rattle.scanline_ops.proofs.blocks.spread_blocks.Given as goal

-- the first x bytes are those of their blocks' first, and the others as they were
pub record AreSpread (row before : List ℕ) (size place x : ℕ) : Type 0 where
  pub counted : place ≡ x % size
  pub reached : place ≤ x
  pub done : (k : ℕ) → k < x → slice_index row k ≡ slice_index before (k - k % size)
  pub rest : (k : ℕ) → x ≤ k → slice_index row k ≡ slice_index before k

abbrev pub invariant-loop-x : goal.invariant-loop-x
invariant-loop-x l = AreSpread l.row l.initial.row l.size l.place l.x
