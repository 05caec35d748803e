-- Each pixel before the loops' has its colour.
use Rattle.std.proofs.Common.{◌≡◌, ℕ, ◌+◌, ◌*◌, ◌<◌, get_or}
use Rattle.ppu_screens.proofs.dots.front_colours.Given as goal

abbrev pub invariant-loop-group : goal.invariant-loop-group
invariant-loop-group l = (k : ℕ) → k < 16 * l.group → get_or l.out k 0 ≡ get_or l.cgram (get_or l.front.numbers k 0) 0

abbrev pub invariant-loop-place : goal.invariant-loop-place
invariant-loop-place l = (k : ℕ) → k < 16 * l.group + l.place → get_or l.out k 0 ≡ get_or l.cgram (get_or l.front.numbers k 0) 0
