-- Each pixel before the loop's is marked, and no mark is greater than the greatest.
use Rattle.std.proofs.Common.{◌≡◌, ℕ, ◌<◌, ◌≤◌, ◌==◌, not, get_or, if◌then◌else◌}
use Rattle.scanline_ops.specs.RankedPixels.{is_named}
use Rattle.color_window.specs.Mixing.{is_mixed}
use Rattle.color_window.proofs.mixing.mark_each.Given as goal

abbrev pub invariant-loop-x : goal.invariant-loop-x
invariant-loop-x l = record {
  marks : (k : ℕ) → k < l.x → get_or l.marks k 0 ≡
      (if is_mixed l.m (not (get_or l.inside k 0 == 0)) (is_named (get_or l.keys k 0)) then 1 else 0);
  most : (k : ℕ) → k < l.x → get_or l.marks k 0 ≤ l.most;
}
