-- Each place before the loop's is done.
use Rattle.std.proofs.Common.{◌≡◌, ℕ, ◌<◌, get_or}
use Rattle.ppu_mode7.specs.Lines.{map_word, fine_of}
use Rattle.ppu_mode7.specs.Rotated.{place_at}
use Rattle.ppu_mode7.proofs.texels.look.Given as goal

abbrev pub invariant-loop-c : goal.invariant-loop-c
invariant-loop-c l = record {
  words : (k : ℕ) → k < l.c → get_or l.words k 0 ≡ map_word (place_at l.along.start_x l.along.a k) (place_at l.along.start_y l.along.c k);
  fine : (k : ℕ) → k < l.c → get_or l.fine k 0 ≡ fine_of (place_at l.along.start_x l.along.a k) (place_at l.along.start_y l.along.c k);
}
