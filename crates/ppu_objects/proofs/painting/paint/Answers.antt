-- A sliver on the screen covers its places; one off it has nothing there.
use Rattle.std.proofs.Common.{◌+◌, ◌∙◌, sym, refl, arith}
use Rattle.ppu_objects.proofs.Lines.{room_for, rank_shown, number_shown, unshown, kept}
use Rattle.ppu_objects.proofs.painting.paint.Goals as goal

pub cover-requires-clause-room : goal.cover-requires-clause-room
cover-requires-clause-room c =
    room_for c.left_of-left.result _ c.left_of-left.ensures.small (sym c.on_screen.ensures ∙ c.if-on_screen.true) refl

pub returns-then-on_screen-clause-ranks : goal.returns-then-on_screen-clause-ranks
returns-then-on_screen-clause-ranks c x h =
    c.cover.ensures.ranks (x + 8) (omega arith)
    ∙ rank_shown c.args.p.now c.args.row c.args.sliver.now c.args.lines.now c.args.bases.now c.args.named c.args.from _ x
    c.left_of-left.result c.rank_of_object-rank.result _ c.left_of-left.ensures.value c.left_of-left.ensures.small h
    (sym c.on_screen.ensures ∙ c.if-on_screen.true) refl c.requires.line c.rank_of_object-rank.ensures

pub returns-then-on_screen-clause-numbers : goal.returns-then-on_screen-clause-numbers
returns-then-on_screen-clause-numbers c x h =
    c.cover.ensures.numbers (x + 8) (omega arith)
    ∙ number_shown c.args.p.now c.args.row c.args.sliver.now c.args.lines.now c.args.from _ x
    c.left_of-left.result _ _ c.left_of-left.ensures.value c.left_of-left.ensures.small h
    (sym c.on_screen.ensures ∙ c.if-on_screen.true) refl c.requires.line refl

pub returns-else-on_screen-clause-ranks : goal.returns-else-on_screen-clause-ranks
returns-else-on_screen-clause-ranks c x h =
    kept _ _ _ (unshown c.args.p.now c.args.row c.args.sliver.now x c.left_of-left.result c.left_of-left.ensures.value h
    (sym c.on_screen.ensures ∙ c.if-on_screen.false))

pub returns-else-on_screen-clause-numbers : goal.returns-else-on_screen-clause-numbers
returns-else-on_screen-clause-numbers c x h =
    kept _ _ _ (unshown c.args.p.now c.args.row c.args.sliver.now x c.left_of-left.result c.left_of-left.ensures.value h
    (sym c.on_screen.ensures ∙ c.if-on_screen.false))
