use Rattle.std.proofs.Common.{length}
use Rattle.run_io.proofs.stems.+has_item.Given as goal

abbrev pub decreases-has_item : goal.decreases-has_item
decreases-has_item l = length l.list.now
