use Rattle.std.proofs.Common.{length}
use Rattle.run_io.proofs.pairs.+word_behind.Given as goal

abbrev pub decreases-word_behind : goal.decreases-word_behind
decreases-word_behind l = length l.pairs.now
