use Rattle.std.proofs.Common.{List, ℕ, subst}
use Rattle.shelf.specs.declared.shelves.Out.TheVariants.{Image}
use Rattle.shelf.specs.Told.{Appends, AppendsSome}
use Rattle.run_io.specs.Form.{order_by}
use Rattle.snes_commands.specs.Loads.{told_in}
use Rattle.snes_commands.proofs.MakeLemmas.{make_whole, make_first, make_all}
use Rattle.snes_commands.proofs.make.MakePerforms.fill.Goals as goal

pub returns-in-Ok-clause-whole : goal.returns-in-Ok-clause-whole
returns-in-Ok-clause-whole g c =
    let a = g.H.Shelf.shown c.args.shelf.now in
    let b = g.H.Shelf.shown c.put.new.self in
    make_whole (order_by c.args._asked.now) (told_in a c.args._asked.now.pairs.now) c.args.ready.items c.requires.ready a b c.requires.created.0 c.image_line.result c.image_line.ensures.text
    (subst (λ (bytes : List ℕ). Appends (a.written Image) (b.written Image) bytes) c.as_slice.ensures.value c.in-Ok.ensures.appended)

pub returns-in-Ok-clause-first : goal.returns-in-Ok-clause-first
returns-in-Ok-clause-first g c =
    let a = g.H.Shelf.shown c.args.shelf.now in
    let b = g.H.Shelf.shown c.put.new.self in
    make_all (order_by c.args._asked.now) (told_in a c.args._asked.now.pairs.now) c.args.ready.items c.requires.ready a b c.requires.created.0
    (subst (λ (bytes : List ℕ). Appends (a.written Image) (b.written Image) bytes) c.as_slice.ensures.value c.in-Ok.ensures.appended)

pub returns-clause-first : goal.returns-clause-first
returns-clause-first g c =
    let a = g.H.Shelf.shown c.args.shelf.now in
    let b = g.H.Shelf.shown c.put.new.self in
    make_first (order_by c.args._asked.now) (told_in a c.args._asked.now.pairs.now) c.args.ready.items c.requires.ready a b c.requires.created.0
    (subst (λ (bytes : List ℕ). AppendsSome (a.written Image) (b.written Image) bytes) c.as_slice.ensures.value c.in-Err.ensures.prefix)
