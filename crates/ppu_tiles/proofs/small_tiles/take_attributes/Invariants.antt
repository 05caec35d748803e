use Rattle.std.proofs.Common.{◌≡◌, ℕ, ◌<◌, slice_index}
use Rattle.ppu_tiles.specs.Columns.{attribute_of}
use Rattle.ppu_tiles.proofs.small_tiles.take_attributes.Given as goal

abbrev pub invariant-loop-c : goal.invariant-loop-c
invariant-loop-c l = (c : ℕ) → c < l.c → slice_index l.attributes c ≡ attribute_of l.mode l.layer l.bits (slice_index l.entries c)
