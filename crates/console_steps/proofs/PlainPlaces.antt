-- What comes at a place where nothing comes but a refresh or the next line, and where the next place is then.
use Rattle.std.proofs.Common.{◌≡◌, ℕ, ◌+◌, ◌-◌, ◌<◌, ◌≤◌, ◌==◌, ◌&&◌, ◌||◌, ◌⊎◌, inl, inr, Bool, true, false, nat_le, IsTrue, List, [], ◌∷◌, refl, sym, ap, subst, ◌∙◌, arith}
use Rattle.std.proofs.lemmas.Bool.Decides.{nat_tests}
use Rattle.snes_defs.specs.declared.region.Region.{Region}
use Rattle.snes_defs.specs.declared.region.Region.TheVariants.{Ntsc, Pal}
use Rattle.snes_defs.specs.declared.spot.IrqTime.{IrqTime}
use Rattle.beam.specs.declared.events.Event.{Event}
use Rattle.beam.specs.declared.events.Event.TheVariants.{Line, Refresh}
use Rattle.beam.specs.declared.events.Happens.{Happens}
use Rattle.beam.specs.Events.{BeamValue, fires, is_blank_line, happens_at, events_of, blank_after, next_h, next_v, happens_next, beam_next, beam_after, passed}
use Rattle.beam.specs.Places.{table_place, timer_place, next_place, clocks_left}
use Rattle.beam.proofs.Quiet.{quiet_passed}
use Rattle.console_bus.specs.BusState.{BusState}
use Rattle.console_steps.specs.PlainPlaces.{IsPlainAhead, IsPlainlyThere, reached_there, happens_in}
use Rattle.console_steps.proofs.PassSteps.{overscan}

abbrev event_list : Event → List Event
event_list e = e ∷ []

-- ---- the two places

refresh_alone : (t : IrqTime) (o blank : Bool) (v : ℕ) → t.kind ≡ 0 → events_of (happens_at t o blank v 536) ≡ Refresh ∷ []
unfolding events_of happens_at fires
refresh_alone t o blank v off = rw off refl

not_blank_line : (o blank : Bool) (v : ℕ) → v ≤ 224 → is_blank_line o blank v ≡ false
unfolding is_blank_line
not_blank_line o blank v few =
    let a : (v == 225) ≡ false = grind (arith, nat_tests) in
    let b : (v == 240) ≡ false = grind (arith, nat_tests) in
    rw (a, b) refl

line_alone : (t : IrqTime) (o blank : Bool) (v : ℕ) → t.kind ≡ 0 → is_blank_line o blank v ≡ false → events_of (happens_at t o blank v 0) ≡ Line ∷ []
unfolding events_of happens_at fires
line_alone t o blank v off none = rw (off, none) refl

far_from_refresh : (t : IrqTime) (blank : Bool) (v : ℕ) → t.kind ≡ 0 → 560 ≤ next_place t blank v 536 - 536
unfolding next_place table_place timer_place
far_from_refresh t true v off = rw off (grind (arith, nat_tests))
far_from_refresh t false v off = rw off (grind (arith, nat_tests))

far_from_line : (t : IrqTime) (blank : Bool) (v : ℕ) → t.kind ≡ 0 → (v == 0) ≡ false → 536 ≤ next_place t blank v 0 - 0
unfolding next_place table_place timer_place
far_from_line t blank v off some = rw (off, some) (grind (arith, nat_tests))

line_after : (region : Region) (v : ℕ) → v ≤ 223 → next_v region v 1363 ≡ v + 1
unfolding next_v
line_after Ntsc v few = grind (arith, nat_tests)
line_after Pal v few = grind (arith, nat_tests)

-- ---- what comes there, and the beam then

record IsRefresh (e : Happens) (n : BeamValue) : Type 0 where
  pub told : e.refresh ≡ true
  pub alone : events_of e ≡ Refresh ∷ []
  pub far : 536 ≤ clocks_left n

record IsLine (e : Happens) (n : BeamValue) : Type 0 where
  pub told : e.refresh ≡ false
  pub alone : events_of e ≡ Line ∷ []
  pub line : (n.v == 0) ≡ false
  pub far : 536 ≤ clocks_left n

told_refresh : (t : IrqTime) (o blank : Bool) (v : ℕ) → (happens_at t o blank v 536).refresh ≡ true
unfolding happens_at
told_refresh t o blank v = refl

told_line : (t : IrqTime) (o blank : Bool) (v : ℕ) → (happens_at t o blank v 0).refresh ≡ false
unfolding happens_at
told_line t o blank v = refl

refresh_there : (o : Bool) (b : BeamValue) → b.timer.kind ≡ 0 → IsRefresh (happens_next o (record b { h = 535 })) (beam_next o (record b { h = 535 }))
unfolding happens_next beam_next next_h next_v
refresh_there o b off =
    let more = far_from_refresh b.timer (blank_after b.blank (happens_at b.timer o b.blank b.v 536) b.v 536) b.v off in
    record { told = told_refresh b.timer o b.blank b.v; alone = refresh_alone b.timer o b.blank b.v off; far = omega (arith, more) }

line_there : (o : Bool) (b : BeamValue) → b.timer.kind ≡ 0 → b.v ≤ 223 → IsLine (happens_next o (record b { h = 1363 })) (beam_next o (record b { h = 1363 }))
unfolding happens_next beam_next next_h
line_there o b off few =
    let v = next_v b.region b.v 1363 in
    let e = line_after b.region b.v few in
    let none : is_blank_line o b.blank v ≡ false = not_blank_line o b.blank v (omega (arith, e, few)) in
    let some : (v == 0) ≡ false = grind (arith, nat_tests) in
    record {
      told = told_line b.timer o b.blank v;
      alone = line_alone b.timer o b.blank v off none;
      line = some;
      far = far_from_line b.timer (blank_after b.blank (happens_at b.timer o b.blank v 0) v 0) v off some;
    }

-- the one or the other
test_eq : (a b : ℕ) → IsTrue (a == b) → a ≡ b
test_eq a b h = grind (arith, nat_tests)

test_le : (a b : ℕ) → IsTrue (nat_le a b) → a ≤ b
test_le a b h = grind (arith, nat_tests)

and_both : (a b : Bool) → IsTrue (a && b) → IsTrue a × IsTrue b
and_both true b h = (refl, h)
and_both false b h = absurd (cc)

or_either : (a b : Bool) → IsTrue (a || b) → IsTrue a ⊎ IsTrue b
or_either true b h = inl refl
or_either false b h = inr h

abbrev There : Bool → BeamValue → ℕ → Type 0
There o b left = IsRefresh (happens_next o (beam_after o b (left - 1))) (beam_next o (beam_after o b (left - 1)))
    ⊎ IsLine (happens_next o (beam_after o b (left - 1))) (beam_next o (beam_after o b (left - 1)))

there_by : (o : Bool) (b : BeamValue) (left : ℕ) → 0 < left → b.h + left ≡ next_place b.timer b.blank b.v b.h → b.timer.kind ≡ 0
    → IsTrue (b.h + left == 536) ⊎ IsTrue (b.h + left == 1364 && nat_le b.v 223) → There o b left
there_by o b left some place off (inl h) =
    let at = test_eq (b.h + left) 536 h in
    let clock : b.h + (left - 1) ≡ 535 = omega (arith, at, some) in
    let on : beam_after o b (left - 1) ≡ record b { h = 535 } = (quiet_passed o b (left - 1) (omega (arith, place, some))).0 ∙ ap (λ (x : ℕ). record b { h = x }) clock in
    let P : BeamValue → Type 0 = λ x. IsRefresh (happens_next o x) (beam_next o x) in
    inl (subst P (sym on) (refresh_there o b off))
there_by o b left some place off (inr h) =
    let both = and_both (b.h + left == 1364) (nat_le b.v 223) h in
    let at = test_eq (b.h + left) 1364 both.0 in
    let clock : b.h + (left - 1) ≡ 1363 = omega (arith, at, some) in
    let on : beam_after o b (left - 1) ≡ record b { h = 1363 } = (quiet_passed o b (left - 1) (omega (arith, place, some))).0 ∙ ap (λ (x : ℕ). record b { h = x }) clock in
    let P : BeamValue → Type 0 = λ x. IsLine (happens_next o x) (beam_next o x) in
    inr (subst P (sym on) (line_there o b off (test_le b.v 223 both.1)))

there : (o : Bool) (b : BeamValue) → IsPlainAhead b → 0 < clocks_left b → There o b (clocks_left b)
there o b plain some =
    there_by o b (clocks_left b) some (omega (arith, some)) plain.off
    (or_either (b.h + clocks_left b == 536) (b.h + clocks_left b == 1364 && nat_le b.v 223) plain.place)

-- ---- the bus that has come there

there_told : (old new : BusState) (happens : Happens) → There (overscan old) old.beam (clocks_left old.beam) → 0 < clocks_left old.beam
    → passed (overscan old) old.beam (clocks_left old.beam - 1) ≡ [] → happens ≡ happens_in old → new ≡ reached_there old → IsPlainlyThere old new happens.refresh
there_told old new happens (inl h) some before last on =
    let told : happens.refresh ≡ true = ap (λ (x : Happens). x.refresh) last ∙ h.told in
    let Far : BusState → Type 0 = λ r. 536 ≤ clocks_left r.beam in
    record {
      event = Refresh;
      alone = h.alone;
      is = λ r at channels was. ap {A = Bool} {B = BusState} (λ x. record r { refresh = x }) (sym told);
      none = λ r. refl;
      some = some;
      before = before;
      on = on;
      far = subst Far (sym on) h.far;
    }
there_told old new happens (inr h) some before last on =
    let told : happens.refresh ≡ false = ap (λ (x : Happens). x.refresh) last ∙ h.told in
    let Far : BusState → Type 0 = λ r. 536 ≤ clocks_left r.beam in
    record {
      event = Line;
      alone = h.alone;
      is = λ r at channels was. (
          let line : (r.beam.v == 0) ≡ false = ap (λ (b : BeamValue). b.v == 0) (at ∙ ap (λ (x : BusState). x.beam) on) ∙ h.line in
          let same : r ≡ record r { refresh = happens.refresh } = ap {A = Bool} {B = BusState} (λ x. record r { refresh = x }) (was ∙ sym told) in
          rw line same);
      none = λ r. refl;
      some = some;
      before = before;
      on = on;
      far = subst Far (sym on) h.far;
    }

pub plainly_there : (old new : BusState) (happens : Happens) → IsPlainAhead old.beam → 0 < clocks_left old.beam
    → passed (overscan old) old.beam (clocks_left old.beam - 1) ≡ [] → happens ≡ happens_in old → new ≡ reached_there old → IsPlainlyThere old new happens.refresh
plainly_there old new happens plain some before last on = there_told old new happens (there (overscan old) old.beam plain some) some before last on
