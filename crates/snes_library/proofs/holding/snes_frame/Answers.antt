use Rattle.std.proofs.Common.{rules, sym, ap, subst, ◌∙◌}
use Rattle.frame_player.specs.Told.{gone_on, word_of}
use Rattle.frame_player.specs.Frames.{IsFramesOf}
use Rattle.snes_library.specs.Fault.{fault_of_frame, IsFaultTold}
use Rattle.snes_library.proofs.Telling.{frame_ends}
use Rattle.snes_library.proofs.holding.snes_frame.Goals as goal

pub returns-in-Err-clause-ends : goal.returns-in-Err-clause-ends
returns-in-Err-clause-ends c = λ differ.
    let console = c.args.console.now in
    let was = subst (IsFramesOf console.kept.told) (sym c.deref_mut.ensures.value) c.take-frames.ensures.frames in (
      search rules,
      fault_of_frame c.in-Err.end,
      subst (λ f. IsFaultTold f c.fault_told-in-Err.result c.fault_told-in-Err.new.answer) c.of_frame.ensures c.fault_told-in-Err.ensures,
      frame_ends console (word_of c.args.pad1) (word_of c.args.pad2) c.args.video.now c.args.sound.now c.frame.new.video c.frame.new.sound c.in-Err.end
          (c.in-Err.ensures.ends console.kept.told was),
    )

pub fill-requires-clause-frames : goal.fill-requires-clause-frames
fill-requires-clause-frames c =
    let told = c.args.console.now.kept.told in
    let was = subst (IsFramesOf told) (sym c.deref_mut.ensures.value) c.take-frames.ensures.frames in
    subst (λ t. IsFramesOf t c.frame.new.self)
    (sym (c.tell_frame.ensures.told ∙ ap (λ t. gone_on t (word_of c.args.pad1) (word_of c.args.pad2)) c.take-frames.ensures.told))
    (c.in-Ok.ensures.on told was)

pub fill-requires-in-Err-clause-frames : goal.fill-requires-in-Err-clause-frames
fill-requires-in-Err-clause-frames c =
    let told = c.args.console.now.kept.told in
    let was = subst (IsFramesOf told) (sym c.deref_mut.ensures.value) c.take-frames.ensures.frames in
    subst (λ t. IsFramesOf t c.frame.new.self) (sym c.take-frames.ensures.told) (c.in-Err.ensures.stays told was)
