-- The words before the loop's are in step.
use Rattle.picture_scenes.proofs.Renewed.{IsRenewed}
use Rattle.picture_scenes.proofs.cache.renew.Given as goal

abbrev pub invariant-loop-word : goal.invariant-loop-word
invariant-loop-word l = IsRenewed l.tiles l.p.vram l.word
