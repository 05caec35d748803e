use Rattle.std.proofs.Common.{◌≡◌, ℕ, ◌+◌, ◌<◌, List, length, slice_index}
use Rattle.ppu_tiles.proofs.columns.put_bytes.Given as goal

-- the first n bytes are put, and nothing before them has changed
pub record IsPut (bytes row before : List ℕ) (at n : ℕ) : Type 0 where
  pub put : (k : ℕ) → k < n → slice_index row (at + k) ≡ slice_index bytes k
  pub below : (k : ℕ) → k < at → slice_index row k ≡ slice_index before k
  pub size : length row ≡ 264

abbrev pub invariant-loop-k : goal.invariant-loop-k
invariant-loop-k l = IsPut l.bytes l.row l.initial.row l.at l.k
