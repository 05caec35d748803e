-- The lines of the slivers before the loop's are put.
use Rattle.std.proofs.Common.{◌≡◌, ℕ, ◌+◌, ◌*◌, ◌<◌, slice_index, slice_index_or}
use Rattle.ppu_objects.specs.Covering.{no_sliver, sliver_pixel}
use Rattle.ppu_objects.proofs.painting.put_lines.Given as goal

abbrev pub invariant-loop-i : goal.invariant-loop-i
invariant-loop-i l = (j k : ℕ) → j < l.i → k < 8 →
    slice_index l.lines (8 * j + k) ≡ sliver_pixel l.p l.row (slice_index_or l.slivers j no_sliver) k
