use Rattle.std.proofs.Common.{◌≡◌, sym, ap, subst, ◌∙◌}
use Rattle.frame_player.specs.Told.{told_first, region_number}
use Rattle.frame_player.specs.Frames.{IsFramesOf}
use Rattle.snes_library.proofs.holding.snes_begin.Goals.{in-0, in-1}
use Rattle.snes_library.proofs.holding.snes_begin.Goals as goal

pub fill-requires-clause-frames : goal.fill-requires-clause-frames
fill-requires-clause-frames c =
    let number : region_number c.match-region.region_of ≡ c.args.region = elim c.match-region.branch [
      | in-0 w ↦ ap region_number w.region_of-is ∙ sym w.in-0.is
      | in-1 w ↦ ap region_number w.region_of-is ∙ sym w.in-1.is
    ] in
    let cart = c.args.cart.now in
    let boot = c.args.boot.now in
    let table = c.args.table.now in
    let begun = subst (λ n. IsFramesOf (told_first cart boot table n c.args.most c.args.slots) c.in-Ok.frames) number c.in-Ok.ensures.begun in
    subst (λ t. IsFramesOf t c.in-Ok-new.boxed.value) (sym c.tell_begun.ensures.told)
    (subst (IsFramesOf (told_first cart boot table c.args.region c.args.most c.args.slots)) (sym c.in-Ok-new.ensures.ok) begun)
