use Rattle.snes_program.specs.Commands.{asked}
use Rattle.snes_program.proofs.Clauses as clause
use Rattle.snes_program.proofs.top.snes.Goals as goal

pub returns-clause-headline : goal.returns-clause-headline
returns-clause-headline g c = clause.wish_asks (g.H.Shelf.shown c.args.shelf.now) (g.H.Shelf.shown c.performed.new.shelf) c.performed.result _ (λ k o h. clause.headline k o _ _ h.not_lines _ h.ends) (asked g.P.Player.emits g.P.StatePlayer.leaves g.Z.StatePlayer.leaves c.args.words.now) c.performed.ensures

pub returns-clause-complete : goal.returns-clause-complete
returns-clause-complete g c = clause.wish_asks (g.H.Shelf.shown c.args.shelf.now) (g.H.Shelf.shown c.performed.new.shelf) c.performed.result _ (λ k o h. clause.complete k o _ _ h.not_lines _ h.ends) (asked g.P.Player.emits g.P.StatePlayer.leaves g.Z.StatePlayer.leaves c.args.words.now) c.performed.ensures

pub returns-clause-load_fault : goal.returns-clause-load_fault
returns-clause-load_fault g c = clause.wish_asks (g.H.Shelf.shown c.args.shelf.now) (g.H.Shelf.shown c.performed.new.shelf) c.performed.result _ (λ k o h. clause.load_fault k o _ _ h.not_lines _ h.ends) (asked g.P.Player.emits g.P.StatePlayer.leaves g.Z.StatePlayer.leaves c.args.words.now) c.performed.ensures

pub returns-clause-write_fault : goal.returns-clause-write_fault
returns-clause-write_fault g c = clause.wish_asks (g.H.Shelf.shown c.args.shelf.now) (g.H.Shelf.shown c.performed.new.shelf) c.performed.result _ (λ k o h. clause.write_fault k o _ _ h.not_lines _ h.ends) (asked g.P.Player.emits g.P.StatePlayer.leaves g.Z.StatePlayer.leaves c.args.words.now) c.performed.ensures

pub returns-clause-refused : goal.returns-clause-refused
returns-clause-refused g c = clause.wish_asks (g.H.Shelf.shown c.args.shelf.now) (g.H.Shelf.shown c.performed.new.shelf) c.performed.result _ (λ k o h. clause.refused k o _ _ h.not_lines _ h.ends) (asked g.P.Player.emits g.P.StatePlayer.leaves g.Z.StatePlayer.leaves c.args.words.now) c.performed.ensures

pub returns-clause-refused_always : goal.returns-clause-refused_always
returns-clause-refused_always g c = clause.wish_asks (g.H.Shelf.shown c.args.shelf.now) (g.H.Shelf.shown c.performed.new.shelf) c.performed.result _ (λ k o h. clause.refused_always k o _ _ h.not_lines _ h.ends) (asked g.P.Player.emits g.P.StatePlayer.leaves g.Z.StatePlayer.leaves c.args.words.now) c.performed.ensures

pub returns-clause-accepted : goal.returns-clause-accepted
returns-clause-accepted g c = clause.wish_asks (g.H.Shelf.shown c.args.shelf.now) (g.H.Shelf.shown c.performed.new.shelf) c.performed.result _ (λ k o h. clause.accepted k o _ _ h.not_lines _ h.ends) (asked g.P.Player.emits g.P.StatePlayer.leaves g.Z.StatePlayer.leaves c.args.words.now) c.performed.ensures

pub returns-clause-untouched : goal.returns-clause-untouched
returns-clause-untouched g c = clause.wish_asks (g.H.Shelf.shown c.args.shelf.now) (g.H.Shelf.shown c.performed.new.shelf) c.performed.result _ (λ k o h. clause.untouched k o _ _ h.not_lines _ h.ends) (asked g.P.Player.emits g.P.StatePlayer.leaves g.Z.StatePlayer.leaves c.args.words.now) c.performed.ensures

pub returns-clause-left : goal.returns-clause-left
returns-clause-left g c = clause.wish_asks (g.H.Shelf.shown c.args.shelf.now) (g.H.Shelf.shown c.performed.new.shelf) c.performed.result _ (λ k o h. clause.left k o _ _ h.not_lines _ h.ends) (asked g.P.Player.emits g.P.StatePlayer.leaves g.Z.StatePlayer.leaves c.args.words.now) c.performed.ensures

pub returns-clause-begun : goal.returns-clause-begun
returns-clause-begun g c = clause.wish_asks (g.H.Shelf.shown c.args.shelf.now) (g.H.Shelf.shown c.performed.new.shelf) c.performed.result _ (λ k o h. clause.begun k o _ _ h.not_lines _ h.ends) (asked g.P.Player.emits g.P.StatePlayer.leaves g.Z.StatePlayer.leaves c.args.words.now) c.performed.ensures

pub returns-clause-others : goal.returns-clause-others
returns-clause-others g c = clause.wish_asks (g.H.Shelf.shown c.args.shelf.now) (g.H.Shelf.shown c.performed.new.shelf) c.performed.result _ (λ k o h. h.others) (asked g.P.Player.emits g.P.StatePlayer.leaves g.Z.StatePlayer.leaves c.args.words.now) c.performed.ensures

pub returns-clause-loads_none : goal.returns-clause-loads_none
returns-clause-loads_none g c = clause.wish_asks (g.H.Shelf.shown c.args.shelf.now) (g.H.Shelf.shown c.performed.new.shelf) c.performed.result _ (λ k o h. h.loads) (asked g.P.Player.emits g.P.StatePlayer.leaves g.Z.StatePlayer.leaves c.args.words.now) c.performed.ensures

pub returns-clause-usage : goal.returns-clause-usage
returns-clause-usage g c = clause.wish_usage (g.H.Shelf.shown c.args.shelf.now) (g.H.Shelf.shown c.performed.new.shelf) c.performed.result (asked g.P.Player.emits g.P.StatePlayer.leaves g.Z.StatePlayer.leaves c.args.words.now) c.performed.ensures

pub returns-clause-usage_always : goal.returns-clause-usage_always
returns-clause-usage_always g c = clause.wish_usage_always (g.H.Shelf.shown c.args.shelf.now) (g.H.Shelf.shown c.performed.new.shelf) c.performed.result (asked g.P.Player.emits g.P.StatePlayer.leaves g.Z.StatePlayer.leaves c.args.words.now) c.performed.ensures

pub returns-clause-formless : goal.returns-clause-formless
returns-clause-formless g c = clause.wish_formless (g.H.Shelf.shown c.args.shelf.now) (g.H.Shelf.shown c.performed.new.shelf) c.performed.result (asked g.P.Player.emits g.P.StatePlayer.leaves g.Z.StatePlayer.leaves c.args.words.now) c.performed.ensures

pub returns-clause-kept : goal.returns-clause-kept
returns-clause-kept g c = clause.wish_kept (g.H.Shelf.shown c.args.shelf.now) (g.H.Shelf.shown c.performed.new.shelf) c.performed.result (asked g.P.Player.emits g.P.StatePlayer.leaves g.Z.StatePlayer.leaves c.args.words.now) c.performed.ensures

pub returns-clause-unnamed : goal.returns-clause-unnamed
returns-clause-unnamed g c = clause.wish_unnamed (g.H.Shelf.shown c.args.shelf.now) (g.H.Shelf.shown c.performed.new.shelf) c.performed.result (asked g.P.Player.emits g.P.StatePlayer.leaves g.Z.StatePlayer.leaves c.args.words.now) c.performed.ensures

pub returns-clause-refusal : goal.returns-clause-refusal
returns-clause-refusal g c = clause.wish_said (g.H.Shelf.shown c.args.shelf.now) (g.H.Shelf.shown c.performed.new.shelf) c.performed.result (asked g.P.Player.emits g.P.StatePlayer.leaves g.Z.StatePlayer.leaves c.args.words.now) c.performed.ensures
