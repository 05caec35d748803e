use Rattle.std.proofs.Common.{rules, ◌∙◌}
use Rattle.snes_commands.proofs.Lists.{empty_front, empty_behind}
use Rattle.snes_commands.proofs.Loading.{read_before, first_ends, then_ends}
use Rattle.snes_commands.proofs.loads.Tuple2Loads.load.Goals as goal

pub returns-in_err-first-clause-ends : goal.returns-in_err-first-clause-ends
returns-in_err-first-clause-ends g c =
    let shows = g.H.Shelf.shown in
    let ends = first_ends c.args.pairs.now (shows c.args.shelf.now) (shows c.load.new.shelf) g.A.Loads.inputs g.B.Loads.inputs _ c.in_err-first.ensures.ends in
    search rules

pub returns-in_err-first-clause-none : goal.returns-in_err-first-clause-none
returns-in_err-first-clause-none g c = λ e. c.load.ensures.none (empty_front g.A.Loads.inputs g.B.Loads.inputs e)

pub returns-in_err-then-clause-ends : goal.returns-in_err-then-clause-ends
returns-in_err-then-clause-ends g c =
    let shows = g.H.Shelf.shown in
    let ends = then_ends c.args.pairs.now (shows c.args.shelf.now) (shows c.load.new.shelf) (shows c.load-2.new.shelf) g.A.Loads.inputs g.B.Loads.inputs _
    c.load.ensures.only c.in_ok-first.ensures.accepted c.in_err-then.ensures.ends in
    search rules

pub returns-in_err-then-clause-none : goal.returns-in_err-then-clause-none
returns-in_err-then-clause-none g c = λ e.
    c.load-2.ensures.none (empty_behind g.A.Loads.inputs g.B.Loads.inputs e) ∙ c.load.ensures.none (empty_front g.A.Loads.inputs g.B.Loads.inputs e)

pub returns-clause-none : goal.returns-clause-none
returns-clause-none g c = λ e.
    c.load-2.ensures.none (empty_behind g.A.Loads.inputs g.B.Loads.inputs e) ∙ c.load.ensures.none (empty_front g.A.Loads.inputs g.B.Loads.inputs e)

pub returns-clause-read : goal.returns-clause-read
returns-clause-read g c =
    let shows = g.H.Shelf.shown in (
      c.in_ok-first.ensures.read,
      read_before c.args.pairs.now (shows c.args.shelf.now) (shows c.load.new.shelf) c.load.ensures.only (λ told. g.B.Loads.reads told c.in_ok-then.then) c.in_ok-then.ensures.read,
    )
