use Rattle.std.proofs.Common.{length}
use Rattle.run_io.proofs.mistakes.+is_given.Given as goal

abbrev pub decreases-is_given : goal.decreases-is_given
decreases-is_given l = length l.pairs.now
