use Rattle.std.proofs.Common.{refl, subst, arith, ◌+◌}
use base.Stored.{Coded-set}
use Rattle.pair_run.specs.declared.over.OverWhole as value
use Rattle.pair_run.specs.OverWhole.{WholeWay, whole_way}
use Rattle.pair_run.proofs.WholeSteps.{HasRunStep, run_one}
use Rattle.pair_run.proofs.earlier.run_step.Given.{Over}
use Rattle.pair_run.proofs.earlier.run_step.Goals.{After-advance-stop}
use Rattle.pair_run.proofs.earlier.run_step.Goals as goal

-- the whole of a value, as the calls see it
abbrev way : (g : Over) → value.OverWhole g.row.W.Denot g.row.W-Pass.Denot g.row.W-Whole.Denot g.W.Wire → WholeWay g.row.W.Denot
way g o = whole_way o.wire.now (g.W.Wire.region_of o.wire.now) o.whole.ghost_name o.side (g.W.Wire.both o.whole.now)

facts : (g : Over) (c : After-advance-stop g)
    → HasRunStep (g.W.Wire.region_of c.args.ports.now.wire.now) g.M.Machine.moves g.M.Machine.MOST
    (g.M.Machine.stands c.args.machine.now) (g.M.Machine.stands c.advance-stop.new.self) (g.M.Machine.stamp_of c.args.machine.now) (g.M.Machine.stamp_of c.advance-stop.new.self)
    (way g c.args.ports.now) (way g c.advance-stop.new.ports) (g.M.Machine.waiting c.args.machine.now) (g.M.Machine.waiting c.advance-stop.new.self)
facts g c =
    let M = g.M.Machine in
    let law = g.met.M.Machine g.world.𝓛 g.world.𝓜 g.world.𝓡 ((λ s x. x), (λ x. x), (λ x. x), λ x. x) in
    let region = g.W.Wire.region_of c.args.ports.now.wire.now in
    let p = way g c.args.ports.now in
    let may = c.requires.may in
    run_one region (M.valid region) M.MOST M.CAP M.moves (law.lawful region) (c.args.at + 1) (M.stands c.args.machine.now) (M.stands c.advance-stop.new.self)
    (M.stamp_of c.args.machine.now) (M.stamp_of c.advance-stop.new.self) p (way g c.advance-stop.new.ports) (M.waiting c.args.machine.now) (M.waiting c.advance-stop.new.self) c.advance-stop.result
    (λ m stands. subst (λ r. M.valid r m) may.same_region (law.stands_valid c.args.machine.now m stands)) (law.stands_stamp c.args.machine.now) (law.stands_stamp c.advance-stop.new.self)
    (refl {a = region}) (omega (arith, c.requires.now)) may.early may.room may.first
    (λ m stands. c.advance-stop.ensures.gone m p stands (refl {a = p}))
    c.stamp-stands.ensures.stands (Coded-set g.row.W.coded) c.advance-stop.ensures.in_order

pub returns-clause-same_reference : goal.returns-clause-same_reference
returns-clause-same_reference g c = (facts g c).lent

pub returns-clause-made : goal.returns-clause-made
returns-clause-made g c = (facts g c).made
