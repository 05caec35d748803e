use Rattle.std.proofs.Common.{length}
use Rattle.run_io.proofs.settings.+count_set.Given as goal

abbrev pub decreases-count_set : goal.decreases-count_set
decreases-count_set l = length l.settings.now
