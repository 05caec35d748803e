use Rattle.std.proofs.Common.{◌≡◌, ◌+◌, ◌%◌, ◌^◌, sum, take}
use Rattle.snes_commands.proofs.sums.added.Given as goal

-- the sum of the bytes so far
abbrev pub invariant-loop-byte : goal.invariant-loop-byte
invariant-loop-byte l = l.total ≡ (l.start + sum (take l.byte-index l.bytes)) % 2 ^ 64
