use Rattle.std.proofs.Common.{rules, ◌≡◌, ◌∷◌, true, sym, subst, List}
use Rattle.std.specs.Prelude.{OnOk}
use Rattle.shelf.specs.declared.shelves.Out.{Out}
use Rattle.run_io.specs.Lists.{AllOf}
use Rattle.snes_commands.specs.Ends.{are_apart}
use Rattle.snes_commands.proofs.Lists.{on_ok}
use Rattle.snes_commands.proofs.OutputLemmas.{still_flushed}
use Rattle.snes_commands.proofs.outputs.+flush_all.Goals as goal

pub returns-in-Ok-clause-whole : goal.returns-in-Ok-clause-whole
returns-in-Ok-clause-whole g t c =
    let b = g.H.Shelf.shown c.flush.new.self in
    let d = g.H.Shelf.shown c.flush_all.new.shelf in
    let outs : c.args.outputs.now ≡ c.in-Some.out.now ∷ c.in-Some.rest.now = search rules in
    let apart : are_apart (c.in-Some.out.now ∷ c.in-Some.rest.now) ≡ true = subst (λ (o : List Out). are_apart o ≡ true) outs c.requires in
    subst (λ (o : List Out). OnOk c.flush_all.result (AllOf (λ x. d.unwritten x ≡ 0) o)) (sym outs)
    (on_ok c.flush_all.result (AllOf (λ x. d.unwritten x ≡ 0) c.in-Some.rest.now) (AllOf (λ x. d.unwritten x ≡ 0) (c.in-Some.out.now ∷ c.in-Some.rest.now))
    (λ h. (still_flushed c.in-Some.out.now c.in-Some.rest.now b d apart c.in-Ok.ensures.whole c.flush_all.ensures.only, h)) c.flush_all.ensures.whole)
