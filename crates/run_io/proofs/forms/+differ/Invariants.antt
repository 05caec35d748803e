use Rattle.std.proofs.Common.{length}
use Rattle.run_io.proofs.forms.+differ.Given as goal

abbrev pub decreases-differ : goal.decreases-differ
decreases-differ l = length l.outputs.now
