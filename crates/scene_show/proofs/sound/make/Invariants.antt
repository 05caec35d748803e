use Rattle.std.proofs.Common.{◌≡◌, length}
use Rattle.scene_show.proofs.sound.make.Given as goal

abbrev pub invariant-samples : goal.invariant-samples
invariant-samples l = length l.ram ≡ 65536
