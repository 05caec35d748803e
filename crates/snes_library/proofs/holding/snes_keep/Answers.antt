use Rattle.std.proofs.Common.{sym, ap, subst, ◌∙◌}
use Rattle.frame_player.specs.Told.{kept_in}
use Rattle.frame_player.specs.Frames.{IsFramesOf}
use Rattle.snes_library.proofs.holding.snes_keep.Goals as goal

pub fill-requires-clause-frames : goal.fill-requires-clause-frames
fill-requires-clause-frames c =
    let told = c.args.console.now.kept.told in
    let was = subst (IsFramesOf told) (sym c.deref_mut.ensures.value) c.take-frames.ensures.frames in
    subst (λ t. IsFramesOf t c.keep.new.self) (sym c.take-frames.ensures.told) (c.keep.ensures.none told was c.if-not-keep.true).1

pub fill-requires-2-clause-frames : goal.fill-requires-2-clause-frames
fill-requires-2-clause-frames c =
    let told = c.args.console.now.kept.told in
    let was = subst (IsFramesOf told) (sym c.deref_mut.ensures.value) c.take-frames.ensures.frames in
    subst (λ t. IsFramesOf t c.keep.new.self) (sym (c.tell_kept.ensures.told ∙ ap (λ t. kept_in t c.args.slot) c.take-frames.ensures.told))
    (c.keep.ensures.kept told was c.if-not-keep.false).1
