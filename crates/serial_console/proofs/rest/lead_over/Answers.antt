use Rattle.std.proofs.Common.{[], refl, ap}
use Rattle.std.proofs.Math.Bridge.{le_prop}
use Rattle.std.proofs.Math.Nat.{ℕ_set}
use mathlib.Core.Logic.{∥∥₁_elim}
use Rattle.side_law.specs.Gone.{Times}
use Rattle.serial_console.specs.Followed.{HasLedOver}
use Rattle.serial_console.proofs.RestSteps.{led_over, over_facts, same_limit}
use Rattle.serial_console.proofs.rest.lead_over.Given.{Over}
use Rattle.serial_console.proofs.rest.lead_over.Goals.{After-advance-stop}
use Rattle.serial_console.proofs.rest.lead_over.Goals as goal

pub returns-clause-end : goal.returns-clause-end
returns-clause-end g c = same_limit c.args.rest.now.end c.advance-stop.new.ports.end c.requires.early (ap (λ (t : Times). t.before) c.advance-stop.ensures.times)

pub returns-clause-led : goal.returns-clause-led
returns-clause-led g c = λ from video audio led.
    let C = g.C.Machine in
    let S = g.S.Machine in
    let law = g.met.C.Machine g.world.𝓛 g.world.𝓜 g.world.𝓡 ((λ s x. x), (λ x. x), (λ x. x), λ x. x) in
    let region = C.region_of c.args.console.now in
    led_over region (C.valid region) C.MOST C.CAP C.moves (law.lawful region) S.moves S.MOST S.CAP C.stands S.stands S.waiting from c.args.console.now c.advance-stop.new.self c.args.rest.now c.advance-stop.new.ports
    (C.waiting c.args.console.now) (C.waiting c.advance-stop.new.self) c.advance-stop.result video audio c.advance-stop.ensures.gone (λ m stands. law.stands_valid c.args.console.now m stands)
    (same_limit c.args.rest.now.end c.advance-stop.new.ports.end c.requires.early (ap (λ (t : Times). t.before) c.advance-stop.ensures.times)) led

-- what the call did, by the numbers of the values
facts : (g : Over) (c : After-advance-stop g) (m : g.C.Machine.State) (s : g.S.Machine.State) → g.C.Machine.stands c.args.console.now m → g.S.Machine.stands c.args.rest.now.sound s
    → HasLedOver g.C.Machine.MOST g.C.Machine.CAP g.S.Machine.MOST g.S.Machine.CAP c.args.rest.now.end (g.C.Machine.stamp_of c.args.console.now) (g.C.Machine.stamp_of c.advance-stop.new.self)
    (g.S.Machine.stamp_of c.args.rest.now.sound) (g.S.Machine.stamp_of c.advance-stop.new.ports.sound) c.advance-stop.new.ports.last c.args.rest.now.bytes.last c.advance-stop.new.ports.bytes.last
    (g.C.Machine.waiting c.args.console.now) (g.C.Machine.waiting c.advance-stop.new.self) (g.S.Machine.waiting c.args.rest.now.sound) (g.S.Machine.waiting c.advance-stop.new.ports.sound)
facts g c m s at_console at_sound =
    let C = g.C.Machine in
    let S = g.S.Machine in
    let law = g.met.C.Machine g.world.𝓛 g.world.𝓜 g.world.𝓡 ((λ s x. x), (λ x. x), (λ x. x), λ x. x) in
    let sound_law = g.met.S.Machine g.world.𝓛 g.world.𝓜 g.world.𝓡 ((λ s x. x), (λ x. x), (λ x. x), λ x. x) in
    let region = C.region_of c.args.console.now in
    over_facts region (C.valid region) C.MOST C.CAP C.moves (law.lawful region) S.moves S.MOST S.CAP C.stands S.stands S.waiting (record { console = m; sound = s; to_sound = []; to_console = [] }) c.args.console.now c.advance-stop.new.self c.args.rest.now c.advance-stop.new.ports
    (C.waiting c.args.console.now) (C.waiting c.advance-stop.new.self) c.advance-stop.result C.stamp_of S.stamp_of law.stands_stamp sound_law.stands_stamp c.requires.early m s at_console at_sound
    (law.stands_valid c.args.console.now m at_console)
    (c.advance-stop.ensures.gone m (record { sound = s; to_sound = c.args.rest.now.bytes.incoming; to_console = c.args.rest.now.bytes.outgoing; audio = S.waiting c.args.rest.now.sound; end = c.args.rest.now.end; sound_last = c.args.rest.now.bytes.last; console_last = c.args.rest.now.last }) at_console
    (record { sound = at_sound; to_sound = refl; to_console = refl; audio = refl; end = refl; sound_last = refl; console_last = refl }))

pub returns-clause-went : goal.returns-clause-went
returns-clause-went g c = record {
  forward = (∥∥₁_elim c.stamp-begun.ensures.stands le_prop (λ p. ∥∥₁_elim c.stamp-sound_begun.ensures.stands le_prop (λ q. (facts g c p.0 q.0 p.1 q.1).forward)));
  sound_forward = (∥∥₁_elim c.stamp-begun.ensures.stands le_prop (λ p. ∥∥₁_elim c.stamp-sound_begun.ensures.stands le_prop (λ q. (facts g c p.0 q.0 p.1 q.1).sound_forward)));
  few = λ none. (∥∥₁_elim c.stamp-begun.ensures.stands le_prop (λ p. ∥∥₁_elim c.stamp-sound_begun.ensures.stands le_prop (λ q. ((facts g c p.0 q.0 p.1 q.1).few none))));
  sound_few = λ few. (∥∥₁_elim c.stamp-begun.ensures.stands le_prop (λ p. ∥∥₁_elim c.stamp-sound_begun.ensures.stands le_prop (λ q. ((facts g c p.0 q.0 p.1 q.1).sound_few few))));
  longer = (∥∥₁_elim c.stamp-begun.ensures.stands le_prop (λ p. ∥∥₁_elim c.stamp-sound_begun.ensures.stands le_prop (λ q. (facts g c p.0 q.0 p.1 q.1).longer)));
  begins = λ some. ((∥∥₁_elim c.stamp-begun.ensures.stands le_prop (λ p. ∥∥₁_elim c.stamp-sound_begun.ensures.stands le_prop (λ q. ((facts g c p.0 q.0 p.1 q.1).begins some).0))), (∥∥₁_elim c.stamp-begun.ensures.stands le_prop (λ p. ∥∥₁_elim c.stamp-sound_begun.ensures.stands le_prop (λ q. ((facts g c p.0 q.0 p.1 q.1).begins some).1))));
  last = λ some. ((∥∥₁_elim c.stamp-begun.ensures.stands le_prop (λ p. ∥∥₁_elim c.stamp-sound_begun.ensures.stands le_prop (λ q. ((facts g c p.0 q.0 p.1 q.1).last some).0))), (∥∥₁_elim c.stamp-begun.ensures.stands le_prop (λ p. ∥∥₁_elim c.stamp-sound_begun.ensures.stands le_prop (λ q. ((facts g c p.0 q.0 p.1 q.1).last some).1))));
  sound_begins = λ some. ((∥∥₁_elim c.stamp-begun.ensures.stands le_prop (λ p. ∥∥₁_elim c.stamp-sound_begun.ensures.stands le_prop (λ q. ((facts g c p.0 q.0 p.1 q.1).sound_begins some).0))), (∥∥₁_elim c.stamp-begun.ensures.stands le_prop (λ p. ∥∥₁_elim c.stamp-sound_begun.ensures.stands le_prop (λ q. ((facts g c p.0 q.0 p.1 q.1).sound_begins some).1))));
  sound_last = λ some. ((∥∥₁_elim c.stamp-begun.ensures.stands le_prop (λ p. ∥∥₁_elim c.stamp-sound_begun.ensures.stands le_prop (λ q. ((facts g c p.0 q.0 p.1 q.1).sound_last some).0))), (∥∥₁_elim c.stamp-begun.ensures.stands le_prop (λ p. ∥∥₁_elim c.stamp-sound_begun.ensures.stands le_prop (λ q. ((facts g c p.0 q.0 p.1 q.1).sound_last some).1))));
  sound_last_stays = λ same. (∥∥₁_elim c.stamp-begun.ensures.stands (ℕ_set _ _) (λ p. ∥∥₁_elim c.stamp-sound_begun.ensures.stands (ℕ_set _ _) (λ q. ((facts g c p.0 q.0 p.1 q.1).sound_last_stays same))));
  stops = λ none fits sound_fits short. ((∥∥₁_elim c.stamp-begun.ensures.stands le_prop (λ p. ∥∥₁_elim c.stamp-sound_begun.ensures.stands le_prop (λ q. ((facts g c p.0 q.0 p.1 q.1).stops none fits sound_fits short).0))), (∥∥₁_elim c.stamp-begun.ensures.stands le_prop (λ p. ∥∥₁_elim c.stamp-sound_begun.ensures.stands le_prop (λ q. ((facts g c p.0 q.0 p.1 q.1).stops none fits sound_fits short).1))));
}
