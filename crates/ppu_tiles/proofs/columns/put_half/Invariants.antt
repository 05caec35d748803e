use Rattle.std.proofs.Common.{◌≡◌, ℕ, ◌+◌, ◌*◌, ◌<◌, List, length, slice_index}
use Rattle.ppu_regs.specs.Reads.{bit_of}
use Rattle.ppu_tiles.proofs.columns.put_half.Given as goal

-- the first n bytes are put, and nothing before them has changed
pub record IsPut (bytes : List ℕ) (odd : ℕ) (row before : List ℕ) (at n : ℕ) : Type 0 where
  pub put : (k : ℕ) → k < n → slice_index row (at + k) ≡ slice_index bytes (2 * k + odd)
  pub below : (k : ℕ) → k < at → slice_index row k ≡ slice_index before k
  pub size : length row ≡ 264

abbrev pub invariant-loop-k : goal.invariant-loop-k
invariant-loop-k l = IsPut l.bytes (bit_of l.odd) l.row l.initial.row l.at l.k
