-- Between two places of the table nothing happens.
use Rattle.std.proofs.Common.{◌≡◌, ℕ, suc, zero, ◌+◌, ◌-◌, ◌<◌, ◌≤◌, Bool, true, false, not, ◌&&◌, ◌||◌, ◌==◌, nat_lt, nat_le, [], refl, sym, ap, append-nil, sub-one, ◌∙◌, arith, add-zero, if◌then◌else◌}
use Rattle.std.proofs.lemmas.Bool.Decides.{nat_tests}
use Rattle.snes_defs.specs.declared.spot.IrqTime.{IrqTime}
use Rattle.beam.specs.declared.events.Happens.{Happens}
use Rattle.beam.specs.Events.{BeamValue, fires, happens_at, events_of, blank_after, next_h, next_v, happens_next, beam_next, beam_after, passed}
use Rattle.beam.specs.Places.{table_place, timer_place, next_place}

-- on line v there is no row of the table at line clock x
pub record IsRowless (blank : Bool) (v x : ℕ) : Type 0 where
  pub no0 : (x == 0) ≡ false
  pub no24 : (x == 24 && v == 0) ≡ false
  pub no536 : (x == 536) ≡ false
  pub no1096 : ((x == 1096 && nat_le 1 v) && nat_le v 239) ≡ false
  pub no1104 : (x == 1104 && not blank) ≡ false

-- a line clock between two rows of the table is none of theirs
between_rows : (blank : Bool) (v h x : ℕ) → h < x → x < table_place blank v h → IsRowless blank v x
unfolding table_place
between_rows true v h x a b = record {
  no0 = grind (arith, nat_tests);
  no24 = grind (arith, nat_tests);
  no536 = grind (arith, nat_tests);
  no1096 = grind (arith, nat_tests);
  no1104 = grind (arith, nat_tests);
}
between_rows false v h x a b = record {
  no0 = grind (arith, nat_tests);
  no24 = grind (arith, nat_tests);
  no536 = grind (arith, nat_tests);
  no1096 = grind (arith, nat_tests);
  no1104 = grind (arith, nat_tests);
}

-- the table's next row is the same for all line clocks before it
same_row : (blank : Bool) (v h x : ℕ) → h < x → x < table_place blank v h → table_place blank v x ≡ table_place blank v h
unfolding table_place
same_row true v h x a b = grind (arith, nat_tests)
same_row false v h x a b = grind (arith, nat_tests)

row_within : (blank : Bool) (v h : ℕ) → table_place blank v h ≤ 1364
unfolding table_place
row_within true v h = grind (arith, nat_tests)
row_within false v h = grind (arith, nat_tests)

place_to_row : (t : IrqTime) (blank : Bool) (v h : ℕ) → next_place t blank v h ≤ table_place blank v h
unfolding next_place
place_to_row t blank v h = grind (arith, nat_tests)

-- the timer doesn't fire where its place isn't
not_firing : (t : IrqTime) (v x : ℕ) → (x == 0) ≡ false → x < 1364 → ¬ (x ≡ timer_place t v) → fires t v x ≡ false
unfolding fires timer_place
not_firing t v x z a n = grind (arith, nat_tests)

-- the earlier of the table's next row and the timer's place, where this lies after h
picked : (timer row h x : ℕ) → h < x → x < (if nat_lt h timer && nat_lt timer row then timer else row)
    → (if nat_lt x timer && nat_lt timer row then timer else row) ≡ (if nat_lt h timer && nat_lt timer row then timer else row)
picked timer row h x a b = grind (arith, nat_tests)

picked_row : (timer row h x : ℕ) → x < (if nat_lt h timer && nat_lt timer row then timer else row) → x < row
picked_row timer row h x b = grind (arith, nat_tests)

picked_timer : (timer row h x : ℕ) → h < x → x < (if nat_lt h timer && nat_lt timer row then timer else row) → ¬ (x ≡ timer)
picked_timer timer row h x a b = λ e. grind (arith, nat_tests)

before_row : (t : IrqTime) (blank : Bool) (v h x : ℕ) → x < next_place t blank v h → x < table_place blank v h
unfolding next_place
before_row t blank v h x b = picked_row (timer_place t v) (table_place blank v h) h x b

same_place : (t : IrqTime) (blank : Bool) (v h x : ℕ) → h < x → x < next_place t blank v h → next_place t blank v x ≡ next_place t blank v h
unfolding next_place
same_place t blank v h x a b =
    let r : table_place blank v x ≡ table_place blank v h = same_row blank v h x a (before_row t blank v h x b) in
    rw r (picked (timer_place t v) (table_place blank v h) h x a b)

not_timer : (t : IrqTime) (blank : Bool) (v h x : ℕ) → h < x → x < next_place t blank v h → ¬ (x ≡ timer_place t v)
unfolding next_place
not_timer t blank v h x a b = picked_timer (timer_place t v) (table_place blank v h) h x a b

-- nothing
abbrev nothing : Happens
nothing = record { line = false; blank = false; hdma_frame = false; refresh = false; draw = false; hdma_line = false; timer = false }

happens_nothing : (t : IrqTime) (overscan blank : Bool) (v x : ℕ) → IsRowless blank v x → fires t v x ≡ false → happens_at t overscan blank v x ≡ nothing
unfolding happens_at
happens_nothing t overscan blank v x r f = simp (r.no0, r.no24, r.no536, r.no1096, r.no1104, f)

or_false : (b : Bool) → (b || false) ≡ b
or_false true = refl
or_false false = refl

blank_stays : (blank : Bool) (v x : ℕ) → IsRowless blank v x → blank_after blank nothing v x ≡ blank
unfolding blank_after
blank_stays blank v x r = rw r.no0 (or_false blank)

-- one master clock on, before the next place, the beam is in the same line
same_line : (b : BeamValue) → b.h + 1 < next_place b.timer b.blank b.v b.h → (b.h == 1363) ≡ false
same_line b a =
    let p = place_to_row b.timer b.blank b.v b.h in
    let w = row_within b.blank b.v b.h in
    let l : b.h + 1 < 1364 = omega arith in
    grind (arith, nat_tests)

-- .. and nothing happens
quiet_there : (overscan : Bool) (b : BeamValue) → b.h + 1 < next_place b.timer b.blank b.v b.h → IsRowless b.blank b.v (b.h + 1) × (happens_at b.timer overscan b.blank b.v (b.h + 1) ≡ nothing)
quiet_there overscan b a =
    let p = place_to_row b.timer b.blank b.v b.h in
    let w = row_within b.blank b.v b.h in
    let later : b.h < b.h + 1 = omega arith in
    let r : IsRowless b.blank b.v (b.h + 1) = between_rows b.blank b.v b.h (b.h + 1) later (before_row b.timer b.blank b.v b.h (b.h + 1) a) in
    let f : fires b.timer b.v (b.h + 1) ≡ false = not_firing b.timer b.v (b.h + 1) r.no0 (omega arith) (not_timer b.timer b.blank b.v b.h (b.h + 1) later a) in
    (r, happens_nothing b.timer overscan b.blank b.v (b.h + 1) r f)

quiet_events : (overscan : Bool) (b : BeamValue) → b.h + 1 < next_place b.timer b.blank b.v b.h → happens_next overscan b ≡ nothing
unfolding next_h next_v happens_next
quiet_events overscan b a = rw (same_line b a) ((quiet_there overscan b a).1)

quiet_step : (overscan : Bool) (b : BeamValue) → b.h + 1 < next_place b.timer b.blank b.v b.h → beam_next overscan b ≡ record b { h = b.h + 1 }
unfolding beam_next next_h next_v
quiet_step overscan b a =
    let q = quiet_there overscan b a in
    let e : blank_after b.blank (happens_next overscan b) b.v (b.h + 1) ≡ b.blank = rw (quiet_events overscan b a) (blank_stays b.blank b.v (b.h + 1) q.0) in
    rw (same_line b a) (ap (λ x. record b { h = b.h + 1; blank = x }) e)

events_of_nothing : events_of nothing ≡ []
unfolding events_of
events_of_nothing = refl

-- a beam so many line clocks further on in its line
abbrev pub further : BeamValue → ℕ → BeamValue
further b clocks = record b { h = b.h + clocks }

pub quiet_passed : (overscan : Bool) (b : BeamValue) (k : ℕ) → b.h + k < next_place b.timer b.blank b.v b.h
    → (beam_after overscan b k ≡ further b k) × (passed overscan b k ≡ [])
unfolding beam_after passed
quiet_passed overscan b zero a = (ap (λ x. record b { h = x }) (sym (add-zero b.h)), refl)
quiet_passed overscan b (suc k) a =
    let first : b.h + 1 < next_place b.timer b.blank b.v b.h = omega arith in
    let s = quiet_step overscan b first in
    let same = same_place b.timer b.blank b.v b.h (b.h + 1) (omega arith) first in
    let rest = quiet_passed overscan (further b 1) k (rw same (omega arith)) in
    let sum : b.h + 1 + k ≡ b.h + suc k = omega arith in
    (rw s (rest.0 ∙ ap (λ x. record b { h = x }) sum), rw s (rw (quiet_events overscan b first) (rw events_of_nothing (rest.1))))

-- the clocks to the next place lead to what happens there
pub reached : (overscan : Bool) (b : BeamValue) (k : ℕ) → b.h + suc k ≡ next_place b.timer b.blank b.v b.h
    → (beam_after overscan b (suc k) ≡ beam_next overscan (further b k)) × (passed overscan b (suc k) ≡ events_of (happens_next overscan (further b k)))
unfolding beam_after passed
reached overscan b zero e =
    let same : b ≡ further b 0 = ap (λ x. record b { h = x }) (sym (add-zero b.h)) in
    (ap (λ x. beam_next overscan x) same, append-nil (events_of (happens_next overscan b)) ∙ ap (λ x. events_of (happens_next overscan x)) same)
reached overscan b (suc k) e =
    let first : b.h + 1 < next_place b.timer b.blank b.v b.h = omega arith in
    let s = quiet_step overscan b first in
    let same = same_place b.timer b.blank b.v b.h (b.h + 1) (omega arith) first in
    let sum : b.h + 1 + k ≡ b.h + suc k = omega arith in
    let there : further (further b 1) k ≡ further b (suc k) = ap (λ x. record b { h = x }) sum in
    let rest = reached overscan (further b 1) k (rw same (omega arith)) in (
      rw s (rest.0 ∙ ap (λ x. beam_next overscan x) there),
      rw s (rw (quiet_events overscan b first) (rw events_of_nothing (rest.1 ∙ ap (λ x. events_of (happens_next overscan x)) there))),
    )

-- a beam whose fields are a place and what is left to it: the same place, some clocks nearer
pub nearer : (b : BeamValue) (place left k : ℕ) → b.h ≡ place - left → left ≤ place → k < left → place ≡ next_place b.timer b.blank b.v b.h
    → (place - (left - k) ≡ b.h + k) × (b.h + k < next_place b.timer b.blank b.v b.h) × (place ≡ next_place b.timer b.blank b.v (b.h + k))
nearer b place left zero e w l p = (omega arith, omega arith, rw (add-zero b.h) p)
nearer b place left (suc k) e w l p =
    let within : b.h + suc k < next_place b.timer b.blank b.v b.h = omega arith in
    (omega arith, within, p ∙ sym (same_place b.timer b.blank b.v b.h (b.h + suc k) (omega arith) within))

-- .. with the number of clocks as it is kept
pub reached_by : (overscan : Bool) (b : BeamValue) (left : ℕ) → 0 < left → b.h + left ≡ next_place b.timer b.blank b.v b.h
    → (beam_after overscan b left ≡ beam_next overscan (further b (left - 1))) × (passed overscan b left ≡ events_of (happens_next overscan (further b (left - 1))))
reached_by overscan b zero l e = absurd (omega arith)
reached_by overscan b (suc k) l e = rw sub-one (reached overscan b k e)
