use Rattle.std.proofs.Common.{List, ℕ, subst}
use Rattle.shelf.specs.declared.shelves.Out.TheVariants.{State}
use Rattle.shelf.specs.Told.{Appends, AppendsSome}
use Rattle.run_io.specs.Form.{order_by}
use Rattle.snes_commands.specs.Loads.{told_in}
use Rattle.snes_commands.proofs.DumpLemmas.{dump_whole, dump_first, dump_all}
use Rattle.snes_commands.proofs.dump.DumpPerforms.fill.Goals as goal

pub returns-in-Ok-clause-whole : goal.returns-in-Ok-clause-whole
returns-in-Ok-clause-whole g c =
    let a = g.H.Shelf.shown c.args.shelf.now in
    let b = g.H.Shelf.shown c.put.new.self in
    let r = c.requires.ready in
    dump_whole g.P.StatePlayer.leaves (order_by c.args._asked.now) (told_in a c.args._asked.now.pairs.now) r.0 r.1 c.play_state-bytes.result.items (c.play_state-bytes.ensures r.0 r.2) a b c.requires.created.0 _ r.4
    (subst (λ (bytes : List ℕ). Appends (a.written State) (b.written State) bytes) c.as_slice.ensures.value c.in-Ok.ensures.appended)

pub returns-in-Ok-clause-first : goal.returns-in-Ok-clause-first
returns-in-Ok-clause-first g c =
    let a = g.H.Shelf.shown c.args.shelf.now in
    let b = g.H.Shelf.shown c.put.new.self in
    let r = c.requires.ready in
    dump_all g.P.StatePlayer.leaves (order_by c.args._asked.now) (told_in a c.args._asked.now.pairs.now) r.0 r.1 c.play_state-bytes.result.items (c.play_state-bytes.ensures r.0 r.2) a b c.requires.created.0
    (subst (λ (bytes : List ℕ). Appends (a.written State) (b.written State) bytes) c.as_slice.ensures.value c.in-Ok.ensures.appended)

pub returns-clause-first : goal.returns-clause-first
returns-clause-first g c =
    let a = g.H.Shelf.shown c.args.shelf.now in
    let b = g.H.Shelf.shown c.put.new.self in
    let r = c.requires.ready in
    dump_first g.P.StatePlayer.leaves (order_by c.args._asked.now) (told_in a c.args._asked.now.pairs.now) r.0 r.1 c.play_state-bytes.result.items (c.play_state-bytes.ensures r.0 r.2) a b c.requires.created.0
    (subst (λ (bytes : List ℕ). AppendsSome (a.written State) (b.written State) bytes) c.as_slice.ensures.value c.in-Err.ensures.prefix)
