use Rattle.std.proofs.Common.{◌≡◌, vec_len}
use Rattle.frame_look.proofs.sounds.copy_samples.Given as goal

abbrev pub invariant-loop : goal.invariant-loop
invariant-loop g l = vec_len l.part ≡ 65536
