-- The window's pixels before the loop's are written, and each other is as it was.
use Rattle.std.proofs.Common.{◌≡◌, ℕ, ◌<◌, ◌&&◌, nat_le, nat_lt, get_or, if◌then◌else◌}
use Rattle.color_window.proofs.windows.copy_within.Given as goal

abbrev pub invariant-loop-x : goal.invariant-loop-x
invariant-loop-x l = (k : ℕ) → k < 256 → get_or l.out k 0 ≡
    (if nat_le l.window.left k && nat_lt k l.x then get_or l.from k 0 else get_or l.initial.out k 0)
