use Rattle.std.proofs.Common.{subst}
use Rattle.shelf.specs.declared.shelves.Out.TheVariants as out
use Rattle.shelf.specs.Told.{Appends, AppendsSome}
use Rattle.run_io.specs.Form.{order_by}
use Rattle.snes_commands.specs.Loads.{told_in}
use Rattle.snes_commands.proofs.SumsRunLemmas.{sums_whole, sums_first, emitted_text, as_many}
use Rattle.snes_commands.proofs.sums_run.SumsRunPerforms.fill.Goals as goal

pub put_sums-requires : goal.put_sums-requires
put_sums-requires g c =
    let r = c.requires.ready in
    record { same = as_many (g.P.Player.emits r.0) r.0 c.play_summed-video.result.0 c.play_summed-video.result.1 (c.play_summed-video.ensures r.0 r.2 r.4) }

pub returns-in-Ok-clause-whole : goal.returns-in-Ok-clause-whole
returns-in-Ok-clause-whole g c =
    let a = g.H.Shelf.shown c.args.shelf.now in
    let b = g.H.Shelf.shown c.put_sums.new.shelf in
    let r = c.requires.ready in
    let h = c.play_summed-video.ensures r.0 r.2 r.4 in
    sums_whole g.P.Player.emits (order_by c.args._asked.now) (told_in a c.args._asked.now.pairs.now) r.0 r.1 a b c.requires.created.0 h.video h.audio h.emitted c.args.ready.line r.5
    (subst (Appends (a.written out.Sums) (b.written out.Sums)) (emitted_text (g.P.Player.emits r.0) r.0 c.play_summed-video.result.0 c.play_summed-video.result.1 h) c.in-Ok.ensures.whole)

pub returns-in-Ok-clause-first : goal.returns-in-Ok-clause-first
returns-in-Ok-clause-first g c =
    let a = g.H.Shelf.shown c.args.shelf.now in
    let b = g.H.Shelf.shown c.put_sums.new.shelf in
    let r = c.requires.ready in
    let h = c.play_summed-video.ensures r.0 r.2 r.4 in
    sums_first g.P.Player.emits (order_by c.args._asked.now) (told_in a c.args._asked.now.pairs.now) r.0 r.1 a b c.requires.created.0 h.video h.audio h.emitted
    (subst (AppendsSome (a.written out.Sums) (b.written out.Sums)) (emitted_text (g.P.Player.emits r.0) r.0 c.play_summed-video.result.0 c.play_summed-video.result.1 h) c.put_sums.ensures.first)

pub returns-clause-first : goal.returns-clause-first
returns-clause-first g c =
    let a = g.H.Shelf.shown c.args.shelf.now in
    let b = g.H.Shelf.shown c.put_sums.new.shelf in
    let r = c.requires.ready in
    let h = c.play_summed-video.ensures r.0 r.2 r.4 in
    sums_first g.P.Player.emits (order_by c.args._asked.now) (told_in a c.args._asked.now.pairs.now) r.0 r.1 a b c.requires.created.0 h.video h.audio h.emitted
    (subst (AppendsSome (a.written out.Sums) (b.written out.Sums)) (emitted_text (g.P.Player.emits r.0) r.0 c.play_summed-video.result.0 c.play_summed-video.result.1 h) c.put_sums.ensures.first)
