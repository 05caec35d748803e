use Rattle.std.proofs.Common.{◌≡◌}
use Rattle.frame_sums.specs.SumsFile.{sums_of_file, sums_on}
use Rattle.frame_sums.proofs.file.read_sums.Given as goal

-- the sums of the whole file are what the lines that are left add to what was read
abbrev pub invariant-loop-line : goal.invariant-loop-line
invariant-loop-line l = sums_of_file l.fn.file ≡ sums_on l.line-iterator l.number l.reading
