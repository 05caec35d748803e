-- Both dots of each pixel before the loop's are written.
use Rattle.std.proofs.Common.{◌≡◌, ℕ, ◌+◌, ◌*◌, ◌<◌, get_or}
use Rattle.scanline_ops.proofs.colours.write_dots.Given as goal

abbrev pub invariant-loop-x : goal.invariant-loop-x
invariant-loop-x l = record {
  even : (k : ℕ) → k < l.x → get_or l.out (2 * k) 0 ≡ get_or l.even k 0;
  odd : (k : ℕ) → k < l.x → get_or l.out (2 * k + 1) 0 ≡ get_or l.odd k 0;
}
