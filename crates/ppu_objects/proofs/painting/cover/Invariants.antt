-- The first pixels are laid, where their value isn't 0.
use Rattle.std.proofs.Common.{◌≡◌, ℕ, ◌+◌, ◌-◌, ◌%◌, ◌<◌, ◌==◌, ◌&&◌, not, nat_lt, nat_le, get_or, if◌then◌else◌}
use Rattle.ppu_objects.proofs.painting.cover.Given as goal

abbrev pub invariant-loop-k : goal.invariant-loop-k
invariant-loop-k l = record {
  ranks : (x : ℕ) → x < 272 → get_or l.ranks x 0 ≡
      (if nat_le l.at x && (nat_lt x (l.at + l.k) && not (get_or l.lines (l.from + (x - l.at)) 0 == 0)) then l.rank else get_or l.initial.ranks x 0);
  numbers : (x : ℕ) → x < 272 → get_or l.numbers x 0 ≡
      (if nat_le l.at x && (nat_lt x (l.at + l.k) && not (get_or l.lines (l.from + (x - l.at)) 0 == 0))
      then (l.colours + get_or l.lines (l.from + (x - l.at)) 0) % 256 else get_or l.initial.numbers x 0);
}
