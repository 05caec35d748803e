use Rattle.std.proofs.Common.{◌≡◌, ◌≢◌, ℕ, ◌+◌, ◌*◌, ◌%◌, ◌<◌, List, Bool, length, slice_index, slice_index_or}
use Rattle.ppu_regs.specs.declared.dots.Dot.{Dot}
use Rattle.ppu_regs.specs.Dots.{dot_of, no_dot}
use Rattle.ppu_tiles.specs.Columns.{planes_layer_dot}
use Rattle.ppu_tiles.proofs.dots.fill.Given as goal

-- the first x dots of a half are filled, and the other half is as it was
pub record IsFilled (cgram ranks numbers : List ℕ) (direct : Bool) (half x : ℕ) (out before : List Dot) : Type 0 where
  pub size : length out ≡ 512
  pub filled : (k : ℕ) → k < x → slice_index_or out (2 * k + half) no_dot ≡ dot_of cgram (planes_layer_dot (slice_index ranks k) (slice_index numbers k) direct)
  pub others : (e : ℕ) → e % 2 ≢ half → slice_index_or out e no_dot ≡ slice_index_or before e no_dot

abbrev pub invariant-loop-x : goal.invariant-loop-x
invariant-loop-x l = IsFilled l.cgram l.ranks l.numbers l.direct l.half l.x l.out l.initial.out
