-- Each pixel before the loop's has its colour.
use Rattle.std.proofs.Common.{◌≡◌, ℕ, ◌<◌, get_or}
use Rattle.ppu_screens.specs.Screens.{ranked_pixel_at, sub_colour}
use Rattle.ppu_screens.proofs.dots.sub_colours.Given as goal

abbrev pub invariant-loop-x : goal.invariant-loop-x
invariant-loop-x l = (k : ℕ) → k < l.x → get_or l.out k 0 ≡ sub_colour l.p (ranked_pixel_at l.sub k)
