use Rattle.std.proofs.Common.{◌≡◌, ◌-◌, ◌+◌, ◌<◌, ap, sym, refl, ◌∙◌, arith}
use Rattle.beam.specs.Events.{BeamValue}
use Rattle.beam.specs.Places.{next_place}
use Rattle.beam.proofs.Quiet.{quiet_passed, nearer}
use Rattle.beam.proofs.beam.Beam.go_on.Goals as goal

-- what contracts see of the fields
abbrev seen : goal.After-self-1 → BeamValue
seen c = record {
  region = c.self.inside.region;
  v = c.self.inside.v;
  h = c.self.inside.place - c.self.inside.left;
  blank = c.self.inside.blank;
  timer = c.self.inside.timer;
}

fewer : (c : goal.After-self-1) → c.args.clocks < c.self.inside.left
fewer c =
    let r = rw (← c.self.view_is) at c.requires in
    let p : c.self.inside.place ≡ next_place c.self.inside.timer c.self.inside.blank c.self.inside.v (c.self.inside.place - c.self.inside.left) = c.self.invariant.4 in
    omega arith

-- where the clocks lead
there : (c : goal.After-self-1) →
    (c.self.inside.place - (c.self.inside.left - c.args.clocks) ≡ (seen c).h + c.args.clocks)
    × ((seen c).h + c.args.clocks < next_place (seen c).timer (seen c).blank (seen c).v (seen c).h)
    × (c.self.inside.place ≡ next_place (seen c).timer (seen c).blank (seen c).v ((seen c).h + c.args.clocks))
there c = nearer (seen c) c.self.inside.place c.self.inside.left c.args.clocks refl c.self.invariant.2 (fewer c) c.self.invariant.4

pub invariant_of-self : goal.invariant_of-self
invariant_of-self c =
    let f = fewer c in
    let t = there c in
    let i = c.self.invariant in
    (i.0, omega arith, omega arith, i.3, t.2 ∙ ap (λ x. next_place c.self.inside.timer c.self.inside.blank c.self.inside.v x) (sym t.0))

pub returns-clause-moved : goal.returns-clause-moved
returns-clause-moved c = λ overscan.
    let t = there c in
    let q = quiet_passed overscan (seen c) c.args.clocks t.1 in
    rw (← c.self.view_is) (ap (λ x. record (seen c) { h = x }) t.0 ∙ sym q.0)

pub returns-clause-none : goal.returns-clause-none
returns-clause-none c = λ overscan.
    let t = there c in
    rw (← c.self.view_is) ((quiet_passed overscan (seen c) c.args.clocks t.1).1)

pub returns-clause-closer : goal.returns-clause-closer
returns-clause-closer c =
    let t = there c in
    let f = fewer c in
    let i = c.self.invariant in
    let p = invariant_of-self c in
    rw (← c.self.view_is) (omega (arith, p.4, i.4))
