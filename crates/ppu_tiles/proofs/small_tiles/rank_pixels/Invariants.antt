use Rattle.std.proofs.Common.{◌≡◌, ℕ, ◌+◌, ◌/◌, ◌%◌, ◌<◌, ◌==◌, List, slice_index, if◌then◌else◌}
use Rattle.ppu_tiles.proofs.small_tiles.rank_pixels.Given as goal

-- the first n dots are ranked
pub record AreRanked (values attributes : List ℕ) (from low high : ℕ) (ranks numbers : List ℕ) (n : ℕ) : Type 0 where
  pub ranks_done : (x : ℕ) → x < n → slice_index ranks x ≡
      (if slice_index values (x + from) == 0 then 0 else (if slice_index attributes (x + from) / 128 == 1 then high else low))
  pub numbers_done : (x : ℕ) → x < n → slice_index numbers x ≡
      (slice_index attributes (x + from) % 128 + slice_index values (x + from)) % 256

abbrev pub invariant-loop-x : goal.invariant-loop-x
invariant-loop-x l = AreRanked l.values l.attributes l.from l.low l.high l.ranks l.numbers l.x
