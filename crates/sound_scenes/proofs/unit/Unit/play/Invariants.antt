use Rattle.std.proofs.Common.{◌≡◌, length}
use Rattle.sound_scenes.proofs.unit.Unit.play.Given as goal

abbrev pub invariant-samples : goal.invariant-samples
invariant-samples l = length l.ram ≡ 65536
