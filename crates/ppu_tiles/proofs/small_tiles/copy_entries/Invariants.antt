use Rattle.std.proofs.Common.{◌≡◌, ℕ, ◌+◌, ◌<◌, List, length, slice_index}
use Rattle.ppu_tiles.proofs.small_tiles.copy_entries.Given as goal

-- the first n entries are copied, and nothing before them has changed
pub record AreCopied (vram entries before : List ℕ) (from at n : ℕ) : Type 0 where
  pub put : (k : ℕ) → k < n → slice_index entries (at + k) ≡ slice_index vram (from + k)
  pub below : (k : ℕ) → k < at → slice_index entries k ≡ slice_index before k
  pub size : length entries ≡ 33

abbrev pub invariant-loop-k : goal.invariant-loop-k
invariant-loop-k l = AreCopied l.vram l.entries l.initial.entries l.from l.at l.k
