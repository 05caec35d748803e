use Rattle.std.proofs.Common.{◌≡◌, ℕ, ◌<◌, slice_index}
use Rattle.ppu_tiles.specs.Columns.{column_entry}
use Rattle.ppu_tiles.proofs.small_tiles.find_entries.Given as goal

abbrev pub invariant-loop-c : goal.invariant-loop-c
invariant-loop-c l = (c : ℕ) → c < l.c → slice_index l.entries c ≡ column_entry l.p l.layer l.y c
