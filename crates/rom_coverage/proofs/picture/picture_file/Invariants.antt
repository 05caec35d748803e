-- Each byte of ROM so far has added three.
use Rattle.std.proofs.Common.{◌≡◌, ◌*◌, length}
use Rattle.rom_coverage.proofs.picture.picture_file.Given as goal

abbrev pub invariant-loop-at : goal.invariant-loop-at
invariant-loop-at l = length l.dots.items ≡ 3 * l.at
