use Rattle.std.proofs.Common.{refl}
use Rattle.std.proofs.Math.Bridge.{le_prop}
use Rattle.std.proofs.Math.Nat.{ℕ_set}
use mathlib.Core.Logic.{∥∥₁_elim}
use Rattle.serial_console.proofs.ByteSteps.{HasLedBy, led_by, led_facts}
use Rattle.serial_console.proofs.bytes.lead_by.Given.{Over}
use Rattle.serial_console.proofs.bytes.lead_by.Goals.{After-advance}
use Rattle.serial_console.proofs.bytes.lead_by.Goals as goal

pub returns-clause-made : goal.returns-clause-made
returns-clause-made g c = λ m stands.
    let M = g.M.Machine in
    let law = g.met.M.Machine g.world.𝓛 g.world.𝓜 g.world.𝓡 ((λ s x. x), (λ x. x), (λ x. x), λ x. x) in
    let region = M.region_of c.args.machine.now in
    led_by region (M.valid region) M.MOST M.moves (law.lawful region) c.args.end M.CAP (M.stands c.advance.new.self) c.advance.result m c.args.bytes.now c.advance.new.ports
    (M.waiting c.args.machine.now) (M.waiting c.advance.new.self) (law.stands_valid c.args.machine.now m stands) (c.advance.ensures.gone m c.args.bytes.now stands refl)

-- what the call did, by the numbers of the value
facts : (g : Over) (c : After-advance g) (m : g.M.Machine.State) → g.M.Machine.stands c.args.machine.now m
    → HasLedBy g.M.Machine.MOST g.M.Machine.CAP c.args.end (g.M.Machine.stamp_of c.args.machine.now) (g.M.Machine.stamp_of c.advance.new.self) c.args.bytes.now c.advance.new.ports
    (g.M.Machine.waiting c.args.machine.now) (g.M.Machine.waiting c.advance.new.self)
facts g c m stands =
    let M = g.M.Machine in
    let law = g.met.M.Machine g.world.𝓛 g.world.𝓜 g.world.𝓡 ((λ s x. x), (λ x. x), (λ x. x), λ x. x) in
    let region = M.region_of c.args.machine.now in
    let gone = c.advance.ensures.gone m c.args.bytes.now stands refl in
    led_facts region (M.valid region) M.MOST M.moves (law.lawful region) c.args.end M.CAP (M.stands c.advance.new.self) c.advance.result m c.args.bytes.now c.advance.new.ports
    (M.waiting c.args.machine.now) (M.waiting c.advance.new.self) (law.stands_valid c.args.machine.now m stands) gone (M.stamp_of c.args.machine.now) (M.stamp_of c.advance.new.self)
    (law.stands_stamp c.args.machine.now m stands) (law.stands_stamp c.advance.new.self gone.to gone.now_stands)

pub returns-clause-first : goal.returns-clause-first
returns-clause-first g c = ∥∥₁_elim c.stamp-begun.ensures.stands (ℕ_set _ _) (λ p. (facts g c p.0 p.1).first)

pub returns-clause-hold : goal.returns-clause-hold
returns-clause-hold g c = ∥∥₁_elim c.stamp-begun.ensures.stands (ℕ_set _ _) (λ p. (facts g c p.0 p.1).hold)

pub returns-clause-few : goal.returns-clause-few
returns-clause-few g c = λ few. ∥∥₁_elim c.stamp-begun.ensures.stands le_prop (λ p. (facts g c p.0 p.1).few few)

pub returns-clause-one : goal.returns-clause-one
returns-clause-one g c = λ held none. ∥∥₁_elim c.stamp-begun.ensures.stands le_prop (λ p. (facts g c p.0 p.1).one held none)

pub returns-clause-last : goal.returns-clause-last
returns-clause-last g c = λ some. (
  ∥∥₁_elim c.stamp-begun.ensures.stands le_prop (λ p. ((facts g c p.0 p.1).last some).0),
  ∥∥₁_elim c.stamp-begun.ensures.stands le_prop (λ p. ((facts g c p.0 p.1).last some).1),
)

pub returns-clause-last_stays : goal.returns-clause-last_stays
returns-clause-last_stays g c = λ same. ∥∥₁_elim c.stamp-begun.ensures.stands (ℕ_set _ _) (λ p. (facts g c p.0 p.1).last_stays same)

pub returns-clause-begins : goal.returns-clause-begins
returns-clause-begins g c = λ some. ∥∥₁_elim c.stamp-begun.ensures.stands le_prop (λ p. (facts g c p.0 p.1).begins some)

pub returns-clause-goes_on : goal.returns-clause-goes_on
returns-clause-goes_on g c = λ early before room fits. ∥∥₁_elim c.stamp-begun.ensures.stands le_prop (λ p. (facts g c p.0 p.1).goes_on early before room fits)
