use Rattle.std.proofs.Common.{refl, subst, arith}
use base.Stored.{Coded-set}
use Rattle.pair_run.specs.declared.over.Over as value
use Rattle.pair_run.specs.Over.{Way, way_of}
use Rattle.pair_run.proofs.WaySteps.{HasRunWay, way_run}
use Rattle.pair_run.proofs.runs.run_over.Given.{Over}
use Rattle.pair_run.proofs.runs.run_over.Goals.{After-advance-stop}
use Rattle.pair_run.proofs.runs.run_over.Goals as goal

-- the pass of a value, as the calls see it
abbrev way : (g : Over) → value.Over g.row.W.Denot g.row.W-Pass.Denot g.row.W-Whole.Denot g.W.Wire → Way g.row.W.Denot
way g o = way_of o.wire.now (g.W.Wire.region_of o.wire.now) o.pass.ghost_name (g.W.Wire.seen o.pass.now) o.late o.held

facts : (g : Over) (c : After-advance-stop g)
    → HasRunWay (g.W.Wire.region_of c.args.over.now.wire.now) g.M.Machine.moves g.M.Machine.MOST g.M.Machine.CAP c.args.until
    (g.M.Machine.stands c.args.machine.now) (g.M.Machine.stands c.advance-stop.new.self) (g.M.Machine.stamp_of c.args.machine.now) (g.M.Machine.stamp_of c.advance-stop.new.self)
    (way g c.args.over.now) (way g c.advance-stop.new.ports) (g.M.Machine.waiting c.args.machine.now) (g.M.Machine.waiting c.advance-stop.new.self)
facts g c =
    let M = g.M.Machine in
    let law = g.met.M.Machine g.world.𝓛 g.world.𝓜 g.world.𝓡 ((λ s x. x), (λ x. x), (λ x. x), λ x. x) in
    let region = g.W.Wire.region_of c.args.over.now.wire.now in
    let p = way g c.args.over.now in
    let may = c.requires.may in
    way_run region (M.valid region) M.MOST M.CAP M.moves (law.lawful region) c.args.until (M.stands c.args.machine.now) (M.stands c.advance-stop.new.self)
    (M.stamp_of c.args.machine.now) (M.stamp_of c.advance-stop.new.self) p (way g c.advance-stop.new.ports) (M.waiting c.args.machine.now) (M.waiting c.advance-stop.new.self) c.advance-stop.result
    (λ m stands. subst (λ r. M.valid r m) c.requires.region (law.stands_valid c.args.machine.now m stands)) (law.stands_stamp c.args.machine.now) (law.stands_stamp c.advance-stop.new.self)
    (refl {a = region}) may.before (omega (arith, may.early)) c.requires.held may.ready may.reach c.requires.keeps
    (λ m stands. c.advance-stop.ensures.gone m p stands (refl {a = p}))
    c.stamp-begun.ensures.stands (Coded-set g.row.W.coded) c.advance-stop.ensures.forward c.advance-stop.ensures.in_order

pub returns-clause-same_reference : goal.returns-clause-same_reference
returns-clause-same_reference g c = (facts g c).lent

pub returns-clause-side : goal.returns-clause-side
returns-clause-side g c = (facts g c).side

pub returns-clause-tried : goal.returns-clause-tried
returns-clause-tried g c = (facts g c).tried

pub returns-clause-held : goal.returns-clause-held
returns-clause-held g c = (facts g c).held_off
