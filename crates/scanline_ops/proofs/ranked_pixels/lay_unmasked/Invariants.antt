-- Each pixel before the loop's has the nearer of its two ranked pixels, and each other is as it was.
use Rattle.std.proofs.Common.{◌≡◌, ℕ, ◌<◌, ◌≤◌, get_or}
use Rattle.scanline_ops.specs.RankedPixels.{is_nearer, chosen}
use Rattle.scanline_ops.proofs.ranked_pixels.lay_unmasked.Given as goal

abbrev pub invariant-loop-x : goal.invariant-loop-x
invariant-loop-x l = record {
  keys : (k : ℕ) → k < l.x → get_or l.front_keys k 0 ≡
      (chosen (is_nearer (get_or l.initial.front_keys k 0) (get_or l.keys k 0)) (get_or l.keys k 0) (get_or l.initial.front_keys k 0));
  numbers : (k : ℕ) → k < l.x → get_or l.front_numbers k 0 ≡
      (chosen (is_nearer (get_or l.initial.front_keys k 0) (get_or l.keys k 0)) (get_or l.numbers k 0) (get_or l.initial.front_numbers k 0));
  keys_left : (k : ℕ) → l.x ≤ k → get_or l.front_keys k 0 ≡ get_or l.initial.front_keys k 0;
  numbers_left : (k : ℕ) → l.x ≤ k → get_or l.front_numbers k 0 ≡ get_or l.initial.front_numbers k 0;
}
