-- Each place before the loop's is done.
use Rattle.std.proofs.Common.{◌≡◌, ℕ, ◌<◌, get_or}
use Rattle.ppu_mode7.specs.Lines.{outside_mark}
use Rattle.ppu_mode7.specs.Rotated.{place_at}
use Rattle.ppu_mode7.proofs.texels.mark_outside.Given as goal

abbrev pub invariant-loop-c : goal.invariant-loop-c
invariant-loop-c l = (k : ℕ) → k < l.c → get_or l.marks k 0 ≡
    outside_mark (place_at l.along.start_x l.along.a k) (place_at l.along.start_y l.along.c k)
