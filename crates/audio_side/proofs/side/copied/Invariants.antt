use Rattle.std.proofs.Common.{◌≡◌, ℕ, ◌<◌, ◌≤◌, length, get_or, slice_index, All}
use Rattle.audio_side.proofs.side.copied.Given as goal

abbrev pub invariant-numbers : goal.invariant-numbers
invariant-numbers l = record {
  whole : length l.numbers ≡ 512;
  same : (k : ℕ) → k < l.i → get_or l.numbers k 0 ≡ slice_index l.table k;
  small : All (λ n. n ≤ 2047) l.numbers;
}
