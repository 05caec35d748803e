use Rattle.std.proofs.Common.{sym, ap, subst, ◌∙◌}
use Rattle.frame_player.specs.Told.{pressed_in}
use Rattle.frame_player.specs.Frames.{IsFramesOf}
use Rattle.snes_library.proofs.holding.snes_reset.Goals as goal

pub fill-requires-clause-frames : goal.fill-requires-clause-frames
fill-requires-clause-frames c =
    let told = c.args.console.now.kept.told in
    let was = subst (IsFramesOf told) (sym c.deref_mut.ensures.value) c.take-frames.ensures.frames in
    subst (λ t. IsFramesOf t c.reset.new.self) (sym c.take-frames.ensures.told) (c.reset.ensures.none told was c.if-not-reset.true).1

pub fill-requires-2-clause-frames : goal.fill-requires-2-clause-frames
fill-requires-2-clause-frames c =
    let told = c.args.console.now.kept.told in
    let was = subst (IsFramesOf told) (sym c.deref_mut.ensures.value) c.take-frames.ensures.frames in
    subst (λ t. IsFramesOf t c.reset.new.self) (sym (c.tell_reset.ensures.told ∙ ap pressed_in c.take-frames.ensures.told))
    (c.reset.ensures.pressed told was c.if-not-reset.false).1
