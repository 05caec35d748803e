use Rattle.std.proofs.Common.{◌≡◌, ℕ, ◌+◌, ◌%◌, ◌<◌, ◌==◌, List, slice_index, if◌then◌else◌}
use Rattle.ppu_tiles.proofs.rows.rank_pixels.Given as goal

-- the first n dots are ranked
pub record AreRanked (values bases firsts : List ℕ) (from : ℕ) (ranks numbers : List ℕ) (n : ℕ) : Type 0 where
  pub ranks_done : (x : ℕ) → x < n → slice_index ranks x ≡ (if slice_index values (x + from) == 0 then 0 else slice_index bases (x + from))
  pub numbers_done : (x : ℕ) → x < n → slice_index numbers x ≡ (slice_index firsts (x + from) + slice_index values (x + from)) % 256

abbrev pub invariant-loop-x : goal.invariant-loop-x
invariant-loop-x l = AreRanked l.values l.bases l.firsts l.from l.ranks l.numbers l.x
