-- Each place before the loops' is done.
use Rattle.std.proofs.Common.{◌≡◌, ℕ, ◌+◌, ◌*◌, ◌/◌, ◌%◌, ◌<◌, get_or}
use Rattle.ppu_mode7.proofs.texels.take_both.Given as goal

abbrev pub invariant-groups : goal.invariant-groups
invariant-groups l = (k : ℕ) → k < 16 * l.group → get_or l.out k 0 ≡ get_or l.vram (64 * (get_or l.vram (get_or l.words k 0) 0 % 256) + get_or l.fine k 0) 0 / 256

abbrev pub invariant-columns : goal.invariant-columns
invariant-columns l = (k : ℕ) → k < 16 * l.group + l.column → get_or l.out k 0 ≡ get_or l.vram (64 * (get_or l.vram (get_or l.words k 0) 0 % 256) + get_or l.fine k 0) 0 / 256
