use Rattle.std.proofs.Common.{◌≤◌, ◌-◌, length}
use Rattle.run_io.proofs.mistakes.wrong_pair.Given as goal

abbrev pub invariant-loop-at : goal.invariant-loop-at
invariant-loop-at l = l.at ≤ length l.pairs

abbrev pub decreases-loop-at : goal.decreases-loop-at
decreases-loop-at l = length l.pairs - l.at
