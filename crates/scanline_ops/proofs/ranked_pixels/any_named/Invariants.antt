-- The greatest name bit of the keys before the loop's.
use Rattle.std.proofs.Common.{◌≡◌, ◌<◌, ◌==◌}
use Rattle.scanline_ops.specs.RankedPixels.{is_any_named}
use Rattle.scanline_ops.proofs.ranked_pixels.any_named.Given as goal

abbrev pub invariant-loop-x : goal.invariant-loop-x
invariant-loop-x l = record {
  small : l.most < 2;
  found : (l.most == 1) ≡ is_any_named l.keys l.x;
}
