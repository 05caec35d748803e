-- Each place before the loop's is done.
use Rattle.std.proofs.Common.{◌≡◌, ℕ, ◌+◌, ◌*◌, ◌/◌, ◌<◌, get_or}
use Rattle.ppu_mode7.proofs.texels.take_values.Given as goal

abbrev pub invariant-loop-c : goal.invariant-loop-c
invariant-loop-c l = (k : ℕ) → k < l.c → get_or l.out k 0 ≡ get_or l.vram (64 * get_or l.tiles k 0 + get_or l.fine k 0) 0 / 256
