use Rattle.std.proofs.Common.{◌≡◌, ◌<◌, ◌≤◌, length, refl, sym, subst, arith}
use Rattle.std.proofs.lemmas.Grind.{common_steps}
use Rattle.std.proofs.Math.Bridge.{le_prop}
use mathlib.Core.Logic.{∥∥₁_elim}
use Rattle.serial_console.proofs.RestSteps.{come_here, come_on, come_up, rest_answered, rest_refused}
use Rattle.serial_console.specs.Rest.{limit_of}
use Rattle.serial_console.proofs.rest.RestPorts.call.Goals.{then-pending-gt0-via-then-pending-gt0, then-pending-gt0-via-else-pending-gt0+then-not-has_room}
use Rattle.serial_console.proofs.rest.RestPorts.call.Goals as goal

pub steps-init : goal.steps-init
steps-init g c = record {
  came = λ p behind.
      let S = g.S.Machine in
      let region = S.region_of c.args.self.now.sound in
      come_here region (S.valid region) S.MOST S.CAP S.moves (g.met.S.Machine.lawful region) S.stands S.waiting c.args.at p c.args.self.now behind;
  end = refl;
}

pub steps-preserved : goal.steps-preserved
steps-preserved g c = record {
  came = λ p behind.
      let S = g.S.Machine in
      let law = g.met.S.Machine in
      let region = S.region_of c.steps.self.sound in
      let h = c.steps.invariant.came p behind in
      let new = c.advance-stop.new in
      let none : length (S.waiting c.steps.self.sound) ≡ 0 = omega (arith, c.pending.ensures, c.if-pending-gt0.false) in
      let early : S.moves.stamp h.to.sound < c.args.at = omega (arith, c.steps-test.true, c.stamp.ensures.stamp, law.stands_stamp c.steps.self.sound h.to.sound h.now_stands.sound) in
      come_on region (S.valid region) S.MOST S.CAP S.moves (law.lawful region) S.stands S.waiting c.args.at p c.steps.self
      (record { sound = new.self; bytes = new.ports; end = c.steps.self.end; last = c.steps.self.last }) c.advance-stop.result h (law.stands_valid c.steps.self.sound h.to.sound h.now_stands.sound) none early (subst (λ e. c.args.at < limit_of e) (sym c.steps.invariant.end) c.requires.in_time) refl refl
      (c.advance-stop.ensures.gone h.to.sound _ h.now_stands.sound refl);
  end = c.steps.invariant.end;
}

pub steps-smaller : goal.steps-smaller
steps-smaller g c =
    let S = g.S.Machine in
    let law = g.met.S.Machine in
    let region = S.region_of c.steps.self.sound in
    let new = c.advance-stop.new in
    let none : length (S.waiting c.steps.self.sound) ≡ 0 = omega (arith, c.pending.ensures, c.if-pending-gt0.false) in
    let fits : S.MOST ≤ S.CAP = grind (arith, c.if-not-has_room.ensures) in
    let early : S.stamp_of c.steps.self.sound < c.args.at = omega (arith, c.steps-test.true, c.stamp.ensures.stamp) in
    let up : S.stamp_of c.steps.self.sound < S.stamp_of new.self = ∥∥₁_elim c.stamp.ensures.stands le_prop (λ m. (
    let is = law.stands_stamp c.steps.self.sound m.0 m.1 in
    let gone = c.advance-stop.ensures.gone m.0 _ m.1 refl in
    let h = come_up region (S.valid region) S.MOST S.CAP S.moves (law.lawful region) S.stands S.waiting c.args.at c.steps.self
    (record { sound = new.self; bytes = new.ports; end = c.steps.self.end; last = c.steps.self.last }) c.advance-stop.result m.0 (law.stands_valid c.steps.self.sound m.0 m.1) none (omega (arith, is, early))
    (subst (λ e. c.args.at < limit_of e) (sym c.steps.invariant.end) c.requires.in_time) fits c.ranges.at.fits gone in
    omega (arith, h, is, law.stands_stamp new.self gone.to gone.now_stands))) in
    omega (arith, up, early)

pub returns-then-matches-clause-answered : goal.returns-then-matches-clause-answered
returns-then-matches-clause-answered g c = λ p behind. record { to = p; now_stands = behind; led = grind (arith, common_steps) }

pub returns-then-pending-gt0-clause-refused : goal.returns-then-pending-gt0-clause-refused
returns-then-pending-gt0-clause-refused g c = λ none p behind.
    let S = g.S.Machine in
    let law = g.met.S.Machine in
    rest_refused S.moves S.MOST S.stands S.waiting c.steps.self c.steps.self c.args.at c.args.act 0 p (c.steps.invariant.came p behind) S.CAP (grind (arith, common_steps))
    (λ m now. omega (arith, c.steps-test.true, c.stamp.ensures.stamp, law.stands_stamp c.steps.self.sound m now))
    (elim c.then-pending-gt0.branch [
      | then-pending-gt0-via-then-pending-gt0 w ↦ λ fits. omega (arith, c.pending.ensures, w.if-pending-gt0.true)
      | then-pending-gt0-via-else-pending-gt0+then-not-has_room w ↦ λ fits. absurd (grind (arith, c.pending.ensures, w.if-pending-gt0.false, w.if-not-has_room.ensures, w.if-not-has_room.true, w.has_room.ensures, fits))
    ])

pub returns-clause-answered : goal.returns-clause-answered
returns-clause-answered g c = λ p behind.
    let S = g.S.Machine in
    let law = g.met.S.Machine in
    rest_answered S.moves S.MOST S.stands S.waiting c.steps.self _ c.args.at c.args.act _ p (c.steps.invariant.came p behind) S.CAP (grind (arith, common_steps))
    (λ m now. omega (arith, c.steps-test.false, c.stamp.ensures.stamp, law.stands_stamp c.steps.self.sound m now)) refl refl refl refl c.exchange.ensures.outgoing c.exchange.ensures.incoming c.got-byte.ensures
