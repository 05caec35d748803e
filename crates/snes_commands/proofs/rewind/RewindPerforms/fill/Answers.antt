use Rattle.run_io.specs.Form.{order_by}
use Rattle.snes_commands.specs.Loads.{told_in}
use Rattle.snes_commands.proofs.RewindLemmas.{rewind_whole, rewind_first}
use Rattle.snes_commands.proofs.rewind.RewindPerforms.fill.Goals as goal

pub returns-in-Ok-clause-whole : goal.returns-in-Ok-clause-whole
returns-in-Ok-clause-whole g c =
    let shows = g.H.Shelf.shown in
    let r = c.requires.ready in
    rewind_whole g.P.Player.emits (order_by c.args._asked.now) (told_in (shows c.args.shelf.now) c.args._asked.now.pairs.now) r.0 c.args.ready.plan r.1 (shows c.play_into.new.shelf) _ r.4 (c.in-Ok.ensures.whole r.0 r.2)

pub returns-in-Ok-clause-first : goal.returns-in-Ok-clause-first
returns-in-Ok-clause-first g c =
    let shows = g.H.Shelf.shown in
    let r = c.requires.ready in
    rewind_first g.P.Player.emits (order_by c.args._asked.now) (told_in (shows c.args.shelf.now) c.args._asked.now.pairs.now) r.0 c.args.ready.plan r.1 (shows c.play_into.new.shelf) (c.play_into.ensures.first r.0 r.2)

pub returns-clause-first : goal.returns-clause-first
returns-clause-first g c =
    let shows = g.H.Shelf.shown in
    let r = c.requires.ready in
    rewind_first g.P.Player.emits (order_by c.args._asked.now) (told_in (shows c.args.shelf.now) c.args._asked.now.pairs.now) r.0 c.args.ready.plan r.1 (shows c.play_into.new.shelf) (c.play_into.ensures.first r.0 r.2)
