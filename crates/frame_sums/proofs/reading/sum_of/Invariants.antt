use Rattle.std.proofs.Common.{◌≡◌, ◌*◌, [], length, take, drop}
use Rattle.frame_sums.specs.SumsFile.{bytes_after}
use Rattle.frame_sums.proofs.reading.sum_of.Given as goal

-- the bytes so far, and those of the digits that are left
abbrev pub invariant-loop-at : goal.invariant-loop-at
invariant-loop-at l = record {
  size : length l.sum ≡ 32;
  read : bytes_after (take l.at l.sum) (drop (2 * l.at) l.digits) ≡ bytes_after [] l.digits;
}
