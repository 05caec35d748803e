use Rattle.std.proofs.Common.{length}
use Rattle.snes_commands.proofs.outputs.+create_all.Given as goal

abbrev pub decreases-create_all : goal.decreases-create_all
decreases-create_all g l = length l.outputs.now
