use Rattle.std.proofs.Common.{Bool, [], ◌==◌, if◌then◌else◌, ◌≡◌, ℕ, ◌-◌, ◌+◌, ◌<◌, ap, sym, ◌∙◌, arith}
use Rattle.beam.specs.Events.{BeamValue, next_h, happens_next, beam_next, beam_after, passed, events_of}
use Rattle.std.proofs.lemmas.Bool.Decides.{nat_tests}
use Rattle.beam.specs.Places.{next_place, stop_of}
use Rattle.beam.proofs.Quiet.{reached_by, quiet_passed, further}
use Rattle.beam.proofs.beam.Beam.reach.Goals as goal

-- what contracts see of the fields
abbrev seen : goal.After-result-1 → BeamValue
seen c = record {
  region = c.self.inside.region;
  v = c.self.inside.v;
  h = c.self.inside.place - c.self.inside.left;
  blank = c.self.inside.blank;
  timer = c.self.inside.timer;
}

-- one clock before the place
abbrev last : goal.After-result-1 → BeamValue
last c = record (seen c) { h = c.self.inside.place - 1 }

at_last : (c : goal.After-result-1) → let left = c.self.inside.left in
    (beam_after c.args.overscan (seen c) left ≡ beam_next c.args.overscan (last c))
    × (passed c.args.overscan (seen c) left ≡ events_of (happens_next c.args.overscan (last c)))
at_last c =
    let i = c.self.invariant in
    let i1 = i.1 in
    let i2 = i.2 in
    let i4 = i.4 in
    let r = reached_by c.args.overscan (seen c) c.self.inside.left i.1 (omega arith) in
    let same : further (seen c) (c.self.inside.left - 1) ≡ last c = ap (λ x. record (seen c) { h = x }) (omega arith) in
    (r.0 ∙ ap (λ x. beam_next c.args.overscan x) same, r.1 ∙ ap (λ x. events_of (happens_next c.args.overscan x)) same)

left_is : (c : goal.After-result-1) → next_place (seen c).timer (seen c).blank (seen c).v (seen c).h - (seen c).h ≡ c.self.inside.left
left_is c =
    let i = c.self.invariant in
    let i2 = i.2 in
    let i4 = i.4 in
    omega arith

-- what is answered is what happens at the place
answered : (c : goal.After-result-1) → c.stop_at-stop.result.happens ≡ happens_next c.args.overscan (last c)
unfolding happens_next stop_of
answered c = ap (λ x. x.happens) c.stop_at-stop.ensures.stop

-- the beam one master clock on from the last
abbrev placed : goal.After-result-1 → (v h : ℕ) (blank : Bool) → BeamValue
placed c v h blank = record { region = c.self.inside.region; v = v; h = h; blank = blank; timer = c.self.inside.timer }

moved_to : (c : goal.After-result-1) → placed c c.stop_at-stop.result.v c.stop_at-stop.result.h c.stop_at-stop.result.blank ≡ beam_next c.args.overscan (last c)
unfolding beam_next happens_next stop_of
moved_to c = ap (λ x. placed c x.v x.h x.blank) c.stop_at-stop.ensures.stop

-- the line clock at the place
stopped_at : (c : goal.After-result-1) → c.stop_at-stop.result.h ≡ next_h (c.self.inside.place - 1)
unfolding stop_of
stopped_at c = ap (λ x. x.h) c.stop_at-stop.ensures.stop

pub returns-clause-moved : goal.returns-clause-moved
returns-clause-moved c =
    let later = c.stop_at-stop.ensures.later in
    let h : c.stop_at-stop.result.next - (c.stop_at-stop.result.next - c.stop_at-stop.result.h) ≡ c.stop_at-stop.result.h = omega arith in
    rw (← c.self.view_is) (rw (left_is c) (rw h (moved_to c ∙ sym (at_last c).0)))

pub returns-clause-happened : goal.returns-clause-happened
returns-clause-happened c =
    rw (← c.self.view_is) (rw (left_is c) ((at_last c).1 ∙ ap events_of (sym (answered c))))

-- the clocks before the last lead there, and nothing happens in them
to_last : (c : goal.After-result-1) →
    (beam_after c.args.overscan (seen c) (c.self.inside.left - 1) ≡ last c) × (passed c.args.overscan (seen c) (c.self.inside.left - 1) ≡ [])
to_last c =
    let i = c.self.invariant in
    let i1 = i.1 in
    let i2 = i.2 in
    let i4 = i.4 in
    let q = quiet_passed c.args.overscan (seen c) (c.self.inside.left - 1) (omega arith) in
    let same : further (seen c) (c.self.inside.left - 1) ≡ last c = ap (λ x. record (seen c) { h = x }) (omega arith) in
    (q.0 ∙ same, q.1)

pub returns-clause-none_before : goal.returns-clause-none_before
returns-clause-none_before c = rw (← c.self.view_is) (rw (left_is c) ((to_last c).1))

pub returns-clause-last : goal.returns-clause-last
returns-clause-last c = rw (← c.self.view_is) (rw (left_is c) (answered c ∙ ap (λ x. happens_next c.args.overscan x) (sym (to_last c).0)))

pub returns-clause-last_moved : goal.returns-clause-last_moved
returns-clause-last_moved c =
    let later = c.stop_at-stop.ensures.later in
    let h : c.stop_at-stop.result.next - (c.stop_at-stop.result.next - c.stop_at-stop.result.h) ≡ c.stop_at-stop.result.h = omega arith in
    rw (← c.self.view_is) (rw (left_is c) (rw h (moved_to c ∙ ap (λ x. beam_next c.args.overscan x) (sym (to_last c).0))))

place_clock : (place : ℕ) → 0 < place → next_h (place - 1) ≡ (if place == 1364 then 0 else place)
unfolding next_h
place_clock place h = grind (arith, nat_tests)

pub returns-clause-clock : goal.returns-clause-clock
returns-clause-clock c =
    let i = c.self.invariant in
    let i1 = i.1 in
    let i2 = i.2 in
    let later = c.stop_at-stop.ensures.later in
    let h : c.stop_at-stop.result.next - (c.stop_at-stop.result.next - c.stop_at-stop.result.h) ≡ c.stop_at-stop.result.h = omega arith in
    let sum : (seen c).h + c.self.inside.left ≡ c.self.inside.place = omega arith in
    rw (← c.self.view_is) (rw (left_is c) (rw (h, sum) (stopped_at c ∙ place_clock c.self.inside.place (omega arith))))
