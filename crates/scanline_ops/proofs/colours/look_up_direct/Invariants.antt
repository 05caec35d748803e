-- Each pixel before the loop's has its colour.
use Rattle.std.proofs.Common.{◌≡◌, ℕ, ◌<◌, true, get_or}
use Rattle.scanline_ops.specs.Colours.{pixel_colour}
use Rattle.scanline_ops.proofs.colours.look_up_direct.Given as goal

abbrev pub invariant-loop-x : goal.invariant-loop-x
invariant-loop-x l = (k : ℕ) → k < l.x → get_or l.out k 0 ≡ pixel_colour l.cgram true l.low l.high (get_or l.keys k 0) (get_or l.numbers k 0)
