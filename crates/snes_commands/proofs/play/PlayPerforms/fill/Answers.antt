use Rattle.spc_player.specs.Play.{play_start}
use Rattle.run_io.specs.Form.{order_by}
use Rattle.snes_commands.specs.Loads.{told_in}
use Rattle.snes_commands.proofs.PlayLemmas.{play_whole, play_first, play_only}
use Rattle.snes_commands.proofs.play.PlayPerforms.fill.Goals as goal

pub returns-in-Ok-clause-whole : goal.returns-in-Ok-clause-whole
returns-in-Ok-clause-whole g c =
    let a = g.H.Shelf.shown c.args.shelf.now in
    let b = g.H.Shelf.shown c.play_asked.new.shelf in
    let r = c.requires.ready in
    play_whole (order_by c.args.asked.now) (told_in a c.args.asked.now.pairs.now) r.0 r.1 r.2 a b c.requires.created.0 c.samples_line.result c.samples_line.ensures.text
    (c.in-Ok.ensures.whole (play_start r.0 r.1) r.3)

pub returns-in-Ok-clause-first : goal.returns-in-Ok-clause-first
returns-in-Ok-clause-first g c =
    let a = g.H.Shelf.shown c.args.shelf.now in
    let b = g.H.Shelf.shown c.play_asked.new.shelf in
    let r = c.requires.ready in
    play_first (order_by c.args.asked.now) (told_in a c.args.asked.now.pairs.now) r.0 r.1 r.2 a b c.requires.created.0 (c.play_asked.ensures.first (play_start r.0 r.1) r.3)

pub returns-clause-first : goal.returns-clause-first
returns-clause-first g c =
    let a = g.H.Shelf.shown c.args.shelf.now in
    let b = g.H.Shelf.shown c.play_asked.new.shelf in
    let r = c.requires.ready in
    play_first (order_by c.args.asked.now) (told_in a c.args.asked.now.pairs.now) r.0 r.1 r.2 a b c.requires.created.0 (c.play_asked.ensures.first (play_start r.0 r.1) r.3)

pub returns-in-Ok-clause-only : goal.returns-in-Ok-clause-only
returns-in-Ok-clause-only g c = play_only (g.H.Shelf.shown c.args.shelf.now) (g.H.Shelf.shown c.play_asked.new.shelf) c.play_asked.ensures.only

pub returns-clause-only : goal.returns-clause-only
returns-clause-only g c = play_only (g.H.Shelf.shown c.args.shelf.now) (g.H.Shelf.shown c.play_asked.new.shelf) c.play_asked.ensures.only
