use Rattle.std.proofs.Common.{rules, ◌≡◌, ◌∷◌, true, sym, subst, inr, List}
use Rattle.std.specs.Prelude.{◌⊎◌, OnOk, IfErr}
use Rattle.shelf.specs.declared.shelves.Out.{Out}
use Rattle.shelf.specs.Shown.{IsUntouched}
use Rattle.run_io.specs.Form.{order_by}
use Rattle.run_io.specs.Lists.{AllOf, FirstThat}
use Rattle.snes_commands.specs.Ends.{are_apart, IsFresh}
use Rattle.snes_commands.proofs.Lists.{on_ok, if_err}
use Rattle.snes_commands.proofs.OutputLemmas.{still_fresh, none_left, all_left}
use Rattle.snes_commands.proofs.outputs.+create_all.Goals as goal

pub returns-in-Ok-clause-created : goal.returns-in-Ok-clause-created
returns-in-Ok-clause-created g t c =
    let shows = g.H.Shelf.shown in
    let order = order_by c.args.asked.now in
    let outs : c.args.outputs.now ≡ c.in-Some.out.now ∷ c.in-Some.rest.now = search rules in
    let apart : are_apart (c.in-Some.out.now ∷ c.in-Some.rest.now) ≡ true = subst (λ (o : List Out). are_apart o ≡ true) outs c.requires.apart in
    let fresh : IsFresh order (shows c.create.new.self) c.in-Some.out.now = search rules in
    subst (λ (o : List Out). OnOk c.create_all.result (AllOf (IsFresh order (shows c.create_all.new.shelf)) o)) (sym outs)
    (on_ok c.create_all.result (AllOf (IsFresh order (shows c.create_all.new.shelf)) c.in-Some.rest.now) (AllOf (IsFresh order (shows c.create_all.new.shelf)) (c.in-Some.out.now ∷ c.in-Some.rest.now))
    (λ h. (still_fresh c.in-Some.out.now c.in-Some.rest.now (shows c.create.new.self) (shows c.create_all.new.shelf) order apart fresh c.create_all.ensures.only, h)) c.create_all.ensures.created)

pub returns-in-Ok-clause-place : goal.returns-in-Ok-clause-place
returns-in-Ok-clause-place g t c =
    let shows = g.H.Shelf.shown in
    let order = order_by c.args.asked.now in
    let outs : c.args.outputs.now ≡ c.in-Some.out.now ∷ c.in-Some.rest.now = search rules in
    let apart : are_apart (c.in-Some.out.now ∷ c.in-Some.rest.now) ≡ true = subst (λ (o : List Out). are_apart o ≡ true) outs c.requires.apart in
    let fresh : IsFresh order (shows c.create.new.self) c.in-Some.out.now = search rules in
    subst (λ (o : List Out). IfErr c.create_all.result (λ failed. FirstThat (IsFresh order (shows c.create_all.new.shelf)) (λ x. x ≡ failed) o)) (sym outs)
    (if_err c.create_all.result (λ failed. FirstThat (IsFresh order (shows c.create_all.new.shelf)) (λ x. x ≡ failed) c.in-Some.rest.now)
    (λ failed. FirstThat (IsFresh order (shows c.create_all.new.shelf)) (λ x. x ≡ failed) (c.in-Some.out.now ∷ c.in-Some.rest.now))
    (λ e h. inr (still_fresh c.in-Some.out.now c.in-Some.rest.now (shows c.create.new.self) (shows c.create_all.new.shelf) order apart fresh c.create_all.ensures.only, h)) c.create_all.ensures.place)

pub returns-in-Ok-clause-left : goal.returns-in-Ok-clause-left
returns-in-Ok-clause-left g t c =
    let shows = g.H.Shelf.shown in
    let order = order_by c.args.asked.now in
    let outs : c.args.outputs.now ≡ c.in-Some.out.now ∷ c.in-Some.rest.now = search rules in
    let apart : are_apart (c.in-Some.out.now ∷ c.in-Some.rest.now) ≡ true = subst (λ (o : List Out). are_apart o ≡ true) outs c.requires.apart in
    let fresh : IsFresh order (shows c.create.new.self) c.in-Some.out.now = search rules in
    subst (λ (o : List Out). AllOf (λ x. IsUntouched (shows c.args.shelf.now) (shows c.create_all.new.shelf) x ⊎ IsFresh order (shows c.create_all.new.shelf) x) o) (sym outs)
    (all_left c.in-Some.out.now c.in-Some.rest.now (shows c.args.shelf.now) (shows c.create.new.self) order apart (shows c.create_all.new.shelf) c.create.ensures.only
    (still_fresh c.in-Some.out.now c.in-Some.rest.now (shows c.create.new.self) (shows c.create_all.new.shelf) order apart fresh c.create_all.ensures.only) c.create_all.ensures.left)

pub returns-in-Err-clause-left : goal.returns-in-Err-clause-left
returns-in-Err-clause-left g t c =
    let shows = g.H.Shelf.shown in
    let order = order_by c.args.asked.now in
    let outs : c.args.outputs.now ≡ c.in-Some.out.now ∷ c.in-Some.rest.now = search rules in
    let apart : are_apart (c.in-Some.out.now ∷ c.in-Some.rest.now) ≡ true = subst (λ (o : List Out). are_apart o ≡ true) outs c.requires.apart in
    subst (λ (o : List Out). AllOf (λ x. IsUntouched (shows c.args.shelf.now) (shows c.create.new.self) x ⊎ IsFresh order (shows c.create.new.self) x) o) (sym outs)
    (none_left c.in-Some.out.now c.in-Some.rest.now (shows c.args.shelf.now) (shows c.create.new.self) order apart c.in-Err.ensures.untouched c.create.ensures.only)
