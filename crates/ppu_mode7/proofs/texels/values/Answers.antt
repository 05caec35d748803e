-- The values by what lies outside of the plane.
use Rattle.std.proofs.Common.{◌%◌, ◌<◌, slice_index, ap, sym, subst, ◌∙◌}
use Rattle.ppu_regs.specs.declared.registers.Outside.{Outside}
use Rattle.ppu_mode7.specs.Rotated.{place_at, value_at}
use Rattle.ppu_mode7.proofs.Values.{word_small, fine_small, wrapped, nothing_outside, zero_outside}
use Rattle.ppu_mode7.proofs.texels.values.Goals as goal

pub take_both-requires-clause-small_words : goal.take_both-requires-clause-small_words
take_both-requires-clause-small_words c n h = subst (λ m. m < 16384) (sym (c.look.ensures.words n h)) (word_small _ _)

pub take_both-requires-clause-small_pixels : goal.take_both-requires-clause-small_pixels
take_both-requires-clause-small_pixels c n h = subst (λ m. m < 64) (sym (c.look.ensures.fine n h)) (fine_small _ _)

pub take_both-requires-in-Nothing-clause-small_words : goal.take_both-requires-in-Nothing-clause-small_words
take_both-requires-in-Nothing-clause-small_words c n h = subst (λ m. m < 16384) (sym (c.look.ensures.words n h)) (word_small _ _)

pub take_both-requires-in-Nothing-clause-small_pixels : goal.take_both-requires-in-Nothing-clause-small_pixels
take_both-requires-in-Nothing-clause-small_pixels c n h = subst (λ m. m < 64) (sym (c.look.ensures.fine n h)) (fine_small _ _)

pub take_tiles-requires-clause-small : goal.take_tiles-requires-clause-small
take_tiles-requires-clause-small c n h = subst (λ m. m < 16384) (sym (c.look.ensures.words n h)) (word_small _ _)

pub take_values-requires-clause-small : goal.take_values-requires-clause-small
take_values-requires-clause-small c n h = subst (λ m. m < 64) (sym (c.look.ensures.fine n h)) (fine_small _ _)

pub returns-in-Wrap : goal.returns-in-Wrap
returns-in-Wrap c n h =
    let tile = ap (λ w. slice_index c.args.vram.now w % 256) (c.look.ensures.words n h) in
    c.take_both.ensures n h ∙ wrapped c.args.vram.now _ _ _ _ tile (c.look.ensures.fine n h)
    ∙ ap (λ (code : Outside). value_at code c.args.vram.now (place_at c.args.along.now.start_x c.args.along.now.a n)
    (place_at c.args.along.now.start_y c.args.along.now.c n)) (sym c.in-Wrap.is)

pub returns-in-Nothing : goal.returns-in-Nothing
returns-in-Nothing c n h =
    let tile = ap (λ w. slice_index c.args.vram.now w % 256) (c.look.ensures.words n h) in
    c.clear_marked.ensures n h
    ∙ nothing_outside c.args.vram.now _ _ _ _ _ _ tile (c.look.ensures.fine n h) (c.mark_outside.ensures n h) (c.take_both-in-Nothing.ensures n h)
    ∙ ap (λ (code : Outside). value_at code c.args.vram.now (place_at c.args.along.now.start_x c.args.along.now.a n)
    (place_at c.args.along.now.start_y c.args.along.now.c n)) (sym c.in-Nothing.is)

pub returns-in-TileZero : goal.returns-in-TileZero
returns-in-TileZero c n h =
    let tile = c.take_tiles.ensures n h ∙ ap (λ w. slice_index c.args.vram.now w % 256) (c.look.ensures.words n h) in
    c.take_values.ensures n h
    ∙ zero_outside c.args.vram.now _ _ _ _ _ _ tile (c.look.ensures.fine n h) (c.mark_outside-in-TileZero.ensures n h)
    (c.clear_marked-in-TileZero.ensures n h)
    ∙ ap (λ (code : Outside). value_at code c.args.vram.now (place_at c.args.along.now.start_x c.args.along.now.a n)
    (place_at c.args.along.now.start_y c.args.along.now.c n)) (sym c.in-TileZero.is)
