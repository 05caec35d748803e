use Rattle.std.proofs.Common.{◌≡◌, ℕ, ◌*◌, ◌/◌, ◌<◌, slice_index}
use Rattle.ppu_tiles.proofs.small_tiles.spread.Given as goal

abbrev pub invariant-loop-c : goal.invariant-loop-c
invariant-loop-c l = (k : ℕ) → k < 8 * l.c → slice_index l.row k ≡ slice_index l.bytes (k / 8)
