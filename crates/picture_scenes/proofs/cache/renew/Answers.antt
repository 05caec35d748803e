-- One more word is in step.
use Rattle.std.proofs.Common.{arith}
use Rattle.picture_scenes.proofs.Renewed.{renewed_next, renewed_whole}
use Rattle.picture_scenes.proofs.cache.renew.Goals as goal

pub loop-word-init : goal.loop-word-init
loop-word-init c = record { at = λ w below. absurd (omega arith) }

pub loop-word-preserved : goal.loop-word-preserved
loop-word-preserved c =
    renewed_next _ c.loop-word.tiles _ c.loop-word.word c.wrote.ensures.step c.wrote.ensures.others c.loop-word.invariant

pub returns : goal.returns
returns c = renewed_whole _ _ c.loop-word.word (omega arith) c.loop-word.invariant
