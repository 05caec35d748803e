use Rattle.std.proofs.Common.{rules, ◌≡◌, ℕ, List, [], Option, sym, ap, ◌∙◌, subst}
use Rattle.std.specs.Prelude.{◌⊎◌}
use Rattle.shelf.specs.declared.shelves.Input.{Input}
use Rattle.shelf.specs.declared.shelves.Out.{Out}
use Rattle.shelf.specs.Told.{Holds}
use Rattle.shelf.specs.Shown.{IsUntouched}
use Rattle.run_io.specs.Form.{FormValue, order_by}
use Rattle.run_drive.specs.OutputLaws.{risen_since}
use Rattle.run_io.specs.Lists.{AllOf, FirstThat, IsOneOf}
use Rattle.snes_commands.specs.Loads.{told_in, ShowsAccepted, EndsInputs}
use Rattle.snes_commands.specs.Command.{HoldsWhole, HoldsFirst}
use Rattle.snes_commands.specs.Ends.{IsMade, IsFresh, OnlyTouches, EndsShort}
use Rattle.snes_commands.proofs.Lists.{all_map}
use Rattle.snes_commands.proofs.OutputLemmas.{touches_then}
use Rattle.snes_commands.proofs.Ending.{loads_end, create_fails, all_done, fill_fails}
use Rattle.snes_commands.proofs.perform.perform.Goals as goal

pub returns-in_err-inputs-clause-ends : goal.returns-in_err-inputs-clause-ends
returns-in_err-inputs-clause-ends g c =
    let shows = g.H.Shelf.shown in
    let status = c.in_err-inputs.field-0.0 in
    let ends : EndsShort g.C.Performs.command (order_by c.args.asked.now) (shows c.args.shelf.now) (shows c.load.new.shelf) status
    = loads_end g.C.Performs.command (order_by c.args.asked.now) (shows c.args.shelf.now) (shows c.load.new.shelf) c.load.ensures.only status
    (subst (λ (l : List Input). EndsInputs c.args.asked.now.pairs.now (shows c.args.shelf.now) (shows c.load.new.shelf) l status) (sym g.met.C.Performs.inputs_are) c.in_err-inputs.ensures.ends) in
    search rules

pub returns-in-Err-clause-ends : goal.returns-in-Err-clause-ends
returns-in-Err-clause-ends g c =
    let shows = g.H.Shelf.shown in
    let z = shows c.args.shelf.now in
    let a = shows c.load.new.shelf in
    let b = shows c.create_all.new.shelf in
    let command = g.C.Performs.command in
    let order = order_by c.args.asked.now in
    let are : c.form.result.outputs.now ≡ command.form.outputs = ap (λ (f : FormValue). f.outputs) c.form.ensures in
    let made : IsMade command order z = record {
      accepted = subst (λ (l : List Input). AllOf (ShowsAccepted (told_in z order.pairs)) l) (sym g.met.C.Performs.inputs_are) c.in_ok-inputs.ensures.accepted;
      makes = c.in-Ok.ensures.makes (told_in z order.pairs) c.in_ok-inputs.ensures.read;
    } in
    create_fails command order z a c.load.ensures.only made b (subst (λ (o : List Out). OnlyTouches o a b) are c.create_all.ensures.only) c.in-Err.out
    c.in-Err.ensures.failed
    (subst (λ (o : List Out). FirstThat (IsFresh order b) (λ x. x ≡ c.in-Err.out) o) are c.in-Err.ensures.place)
    (subst (λ (o : List Out). AllOf (λ x. IsUntouched a b x ⊎ IsFresh order b x) o) are c.create_all.ensures.left)

pub fill-requires-clause-created : goal.fill-requires-clause-created
fill-requires-clause-created g c =
    let b = g.H.Shelf.shown c.create_all.new.shelf in
    let are : c.form.result.outputs.now ≡ g.C.Performs.command.form.outputs = ap (λ (f : FormValue). f.outputs) c.form.ensures in
    subst (λ (o : List Out). AllOf (λ x. Holds (b.written x) []) o) are
    (all_map (IsFresh (order_by c.args.asked.now) b) (λ x. Holds (b.written x) []) (λ x h. h.empty) c.form.result.outputs.now c.in_default-create_all.ensures.created)

pub returns-in-Err-fill-clause-ends : goal.returns-in-Err-fill-clause-ends
returns-in-Err-fill-clause-ends g c =
    let shows = g.H.Shelf.shown in
    let z = shows c.args.shelf.now in
    let a = shows c.load.new.shelf in
    let b = shows c.create_all.new.shelf in
    let command = g.C.Performs.command in
    let order = order_by c.args.asked.now in
    let are : c.form.result.outputs.now ≡ command.form.outputs = ap (λ (f : FormValue). f.outputs) c.form.ensures in
    let made : IsMade command order z = record {
      accepted = subst (λ (l : List Input). AllOf (ShowsAccepted (told_in z order.pairs)) l) (sym g.met.C.Performs.inputs_are) c.in_ok-inputs.ensures.accepted;
      makes = c.in-Ok.ensures.makes (told_in z order.pairs) c.in_ok-inputs.ensures.read;
    } in
    let opens = subst (λ (o : List Out). OnlyTouches o a b) are c.create_all.ensures.only in
    let created = subst (λ (o : List Out). AllOf (IsFresh order b) o) are c.in_default-create_all.ensures.created in
    fill_fails command order z a c.load.ensures.only made b opens created (shows c.fill.new.shelf) c.fill.ensures.only c.fill.ensures.named c.in-Err-fill.out
    c.fill.ensures.first c.in-Err-fill.ensures.failed.0 c.in-Err-fill.ensures.failed.1

pub returns-in-Ok-flush_all-clause-done : goal.returns-in-Ok-flush_all-clause-done
returns-in-Ok-flush_all-clause-done g c =
    let shows = g.H.Shelf.shown in
    let z = shows c.args.shelf.now in
    let a = shows c.load.new.shelf in
    let b = shows c.create_all.new.shelf in
    let command = g.C.Performs.command in
    let order = order_by c.args.asked.now in
    let are : c.form.result.outputs.now ≡ command.form.outputs = ap (λ (f : FormValue). f.outputs) c.form.ensures in
    let made : IsMade command order z = record {
      accepted = subst (λ (l : List Input). AllOf (ShowsAccepted (told_in z order.pairs)) l) (sym g.met.C.Performs.inputs_are) c.in_ok-inputs.ensures.accepted;
      makes = c.in-Ok.ensures.makes (told_in z order.pairs) c.in_ok-inputs.ensures.read;
    } in
    let opens = subst (λ (o : List Out). OnlyTouches o a b) are c.create_all.ensures.only in
    let created = subst (λ (o : List Out). AllOf (IsFresh order b) o) are c.in_default-create_all.ensures.created in
    let d = shows c.flush_all.new.shelf in
    let fills = touches_then command.form.outputs b (shows c.fill.new.shelf) d c.fill.ensures.only (subst (λ (o : List Out). OnlyTouches o (shows c.fill.new.shelf) d) are c.flush_all.ensures.only) in
    all_done command order z a c.load.ensures.only made b opens created d fills (c.flush_all.ensures.named ∙ c.fill.ensures.named) c.in-Ok-fill.line
    (subst (λ (w : Out → Option (List ℕ)). HoldsWhole command order (told_in b order.pairs) w c.in-Ok-fill.line) (sym c.flush_all.ensures.written) c.in-Ok-fill.ensures.whole)
    (subst (λ (o : List Out). AllOf (λ x. d.unwritten x ≡ 0) o) are c.in-Ok-flush_all.ensures.whole)

pub returns-in-Err-flush_all-clause-ends : goal.returns-in-Err-flush_all-clause-ends
returns-in-Err-flush_all-clause-ends g c =
    let shows = g.H.Shelf.shown in
    let z = shows c.args.shelf.now in
    let a = shows c.load.new.shelf in
    let b = shows c.create_all.new.shelf in
    let command = g.C.Performs.command in
    let order = order_by c.args.asked.now in
    let are : c.form.result.outputs.now ≡ command.form.outputs = ap (λ (f : FormValue). f.outputs) c.form.ensures in
    let made : IsMade command order z = record {
      accepted = subst (λ (l : List Input). AllOf (ShowsAccepted (told_in z order.pairs)) l) (sym g.met.C.Performs.inputs_are) c.in_ok-inputs.ensures.accepted;
      makes = c.in-Ok.ensures.makes (told_in z order.pairs) c.in_ok-inputs.ensures.read;
    } in
    let opens = subst (λ (o : List Out). OnlyTouches o a b) are c.create_all.ensures.only in
    let created = subst (λ (o : List Out). AllOf (IsFresh order b) o) are c.in_default-create_all.ensures.created in
    let d = shows c.flush_all.new.shelf in
    let fills = touches_then command.form.outputs b (shows c.fill.new.shelf) d c.fill.ensures.only (subst (λ (o : List Out). OnlyTouches o (shows c.fill.new.shelf) d) are c.flush_all.ensures.only) in
    fill_fails command order z a c.load.ensures.only made b opens created d fills (c.flush_all.ensures.named ∙ c.fill.ensures.named) c.in-Err-flush_all.out
    (subst (λ (w : Out → Option (List ℕ)). AllOf (HoldsFirst command order (told_in b order.pairs) w) command.form.outputs) (sym c.flush_all.ensures.written) c.fill.ensures.first)
    (subst (λ (o : List Out). IsOneOf o c.in-Err-flush_all.out) are c.in-Err-flush_all.ensures.failed.0)
    (risen_since (b.write_faults c.in-Err-flush_all.out) ((shows c.fill.new.shelf).write_faults c.in-Err-flush_all.out) (d.write_faults c.in-Err-flush_all.out) (c.fill.ensures.only.write_faults c.in-Err-flush_all.out) c.in-Err-flush_all.ensures.failed.1)
