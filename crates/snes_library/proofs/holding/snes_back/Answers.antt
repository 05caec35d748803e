use Rattle.std.proofs.Common.{sym, ap, subst, ◌∙◌}
use Rattle.frame_player.specs.Told.{back_to}
use Rattle.frame_player.specs.Frames.{IsFramesOf}
use Rattle.snes_library.proofs.holding.snes_back.Goals as goal

pub fill-requires-clause-frames : goal.fill-requires-clause-frames
fill-requires-clause-frames c =
    let told = c.args.console.now.kept.told in
    let was = subst (IsFramesOf told) (sym c.deref_mut.ensures.value) c.take-frames.ensures.frames in
    subst (λ t. IsFramesOf t c.back.new.self) (sym c.take-frames.ensures.told) (c.back.ensures.none told was c.if-not-back.true).1

pub fill-requires-2-clause-frames : goal.fill-requires-2-clause-frames
fill-requires-2-clause-frames c =
    let told = c.args.console.now.kept.told in
    let was = subst (IsFramesOf told) (sym c.deref_mut.ensures.value) c.take-frames.ensures.frames in
    subst (λ t. IsFramesOf t c.back.new.self) (sym (c.tell_back.ensures.told ∙ ap (λ t. back_to t c.args.slot) c.take-frames.ensures.told))
    (c.back.ensures.back told was c.if-not-back.false).1
