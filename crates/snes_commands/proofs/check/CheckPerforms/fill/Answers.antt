use Rattle.std.proofs.Common.{Some, None}
use Rattle.run_io.specs.Form.{order_by}
use Rattle.snes_commands.specs.Loads.{told_in}
use Rattle.snes_commands.proofs.SumsRunLemmas.{as_many}
use Rattle.snes_commands.proofs.CheckLemmas.{check_whole, emitted_found}
use Rattle.snes_commands.proofs.check.CheckPerforms.fill.Goals as goal

pub first_difference-requires : goal.first_difference-requires
first_difference-requires g c =
    let r = c.requires.ready in
    record { same = as_many (g.P.Player.emits r.0) r.0 c.play_summed-video.result.0 c.play_summed-video.result.1 (c.play_summed-video.ensures r.0 r.3 r.5) }

pub returns-in-Some-clause-whole : goal.returns-in-Some-clause-whole
returns-in-Some-clause-whole g c =
    let a = g.H.Shelf.shown c.args._shelf.now in
    let r = c.requires.ready in
    let h = c.play_summed-video.ensures r.0 r.3 r.5 in
    let file = c.args.ready.file in
    check_whole g.P.Player.emits (order_by c.args._asked.now) (told_in a c.args._asked.now.pairs.now) r.0 r.1 file r.2 a h.video h.audio h.emitted (Some c.in-Some.difference)
    (emitted_found (g.P.Player.emits r.0) r.0 c.play_summed-video.result.0 c.play_summed-video.result.1 h file (Some c.in-Some.difference) c.in-Some.ensures) c.difference_line.result c.difference_line.ensures

pub returns-clause-whole : goal.returns-clause-whole
returns-clause-whole g c =
    let a = g.H.Shelf.shown c.args._shelf.now in
    let r = c.requires.ready in
    let h = c.play_summed-video.ensures r.0 r.3 r.5 in
    let file = c.args.ready.file in
    check_whole g.P.Player.emits (order_by c.args._asked.now) (told_in a c.args._asked.now.pairs.now) r.0 r.1 file r.2 a h.video h.audio h.emitted None
    (emitted_found (g.P.Player.emits r.0) r.0 c.play_summed-video.result.0 c.play_summed-video.result.1 h file None c.in-None.ensures) c.args.ready.line r.6
