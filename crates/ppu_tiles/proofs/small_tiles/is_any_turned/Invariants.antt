use Rattle.std.proofs.Common.{ℕ, ◌/◌, ◌%◌, ◌<◌, ◌≤◌, slice_index}
use Rattle.ppu_tiles.proofs.small_tiles.is_any_turned.Given as goal

abbrev pub invariant-loop-c : goal.invariant-loop-c
invariant-loop-c l = (c : ℕ) → c < l.c → slice_index l.entries c / 16384 % 2 ≤ l.most
