-- The clocks that pass: quiet ones, and those that lead to a place with events.
use Rattle.std.proofs.Common.{◌≡◌, ℕ, zero, suc, ◌+◌, ◌-◌, ◌<◌, ◌≤◌, ◌==◌, Bool, true, false, IsTrue, List, [], ◌∷◌, ◌++◌, refl, sym, ap, ◌∙◌, arith, add-zero, append_assoc, if◌then◌else◌, ◌&&◌, nat_le}
use Rattle.std.proofs.lemmas.Bool.Decides.{nat_tests}
use Rattle.beam.specs.declared.events.Event.{Event}
use Rattle.beam.specs.Events.{BeamValue, happens_next, happens_at, beam_next, beam_after, passed, next_v, next_h}
use Rattle.console_steps.specs.ConsoleState.{ConsoleState, overscan_of, moved, events_next, after_events, bytes_of_events, after_clocks, bytes_in}
use Rattle.console_steps.specs.Draws.{room_for}

first_empty : (xs ys : List Event) → xs ++ ys ≡ [] → xs ≡ []
first_empty [] ys e = refl
first_empty (x ∷ xs) ys e = absurd (cc)

second_empty : (xs ys : List Event) → xs ++ ys ≡ [] → ys ≡ []
second_empty [] ys e = e
second_empty (x ∷ xs) ys e = absurd (cc)

-- a console state whose beam goes on with nothing happening
abbrev pub drifted : ConsoleState → ℕ → ConsoleState
drifted w k = record w { rest = record w.rest { beam = beam_after (overscan_of w) w.rest.beam k }; clock = w.clock + k }

pub quiet_clocks : (w : ConsoleState) (k : ℕ) → passed (overscan_of w) w.rest.beam k ≡ []
    → (after_clocks w k ≡ drifted w k) × (bytes_in w k ≡ [])
unfolding after_clocks bytes_in passed beam_after
quiet_clocks w zero e = (ap (λ n. record w { clock = n }) (sym (add-zero w.clock)), refl)
quiet_clocks w (suc k) e =
    let none : events_next w ≡ [] = first_empty (events_next w) _ e in
    let later = quiet_clocks (moved w) k (second_empty (events_next w) _ e) in
    let sum : w.clock + 1 + k ≡ w.clock + suc k = omega arith in
    (rw none (later.0 ∙ ap (λ n. record (drifted (moved w) k) { clock = n }) sum), rw none later.1)

-- so many clocks, and then more
pub clocks_joined : (w : ConsoleState) (j k : ℕ) → (after_clocks w (j + k) ≡ after_clocks (after_clocks w j) k) × (bytes_in w (j + k) ≡ bytes_in w j ++ bytes_in (after_clocks w j) k)
unfolding after_clocks bytes_in
clocks_joined w zero k =
    let z : zero + k ≡ k = omega arith in
    (rw z refl, rw z refl)
clocks_joined w (suc j) k =
    let s : suc j + k ≡ suc (j + k) = omega arith in
    let next = after_events (moved w) (events_next w) in
    let rest = clocks_joined next j k in
    (rw s (rest.0), rw s (ap (λ x. bytes_of_events (moved w) (events_next w) ++ x) rest.1 ∙ sym (append_assoc (bytes_of_events (moved w) (events_next w)) (bytes_in next j) (bytes_in (after_clocks next j) k))))

-- the console state at a place where something may happen, before that happens
abbrev pub arrived : ConsoleState → ℕ → ConsoleState
arrived w left = moved (drifted w (left - 1))

abbrev pub arrival : ConsoleState → ℕ → List Event
arrival w left = events_next (drifted w (left - 1))

-- the clocks that are left lead to a place; the others come after what happens there
pub clocks_to_place : (w : ConsoleState) (left clocks : ℕ) → 0 < left → left ≤ clocks → passed (overscan_of w) w.rest.beam (left - 1) ≡ []
    → (after_clocks w clocks ≡ after_clocks (after_events (arrived w left) (arrival w left)) (clocks - left))
    × (bytes_in w clocks ≡ bytes_of_events (arrived w left) (arrival w left) ++ bytes_in (after_events (arrived w left) (arrival w left)) (clocks - left))
unfolding after_clocks bytes_in
clocks_to_place w left clocks some enough none =
    let parts : clocks ≡ left - 1 + suc (clocks - left) = omega arith in
    let both = clocks_joined w (left - 1) (suc (clocks - left)) in
    let quiet = quiet_clocks w (left - 1) none in
    let a : after_clocks w (left - 1 + suc (clocks - left)) ≡ after_clocks (drifted w (left - 1)) (suc (clocks - left)) = both.0 ∙ ap (λ x. after_clocks x (suc (clocks - left))) quiet.0 in
    let b : bytes_in w (left - 1 + suc (clocks - left)) ≡ bytes_in (drifted w (left - 1)) (suc (clocks - left)) =
    both.1 ∙ ap (λ x. x ++ bytes_in (after_clocks w (left - 1)) (suc (clocks - left))) quiet.1 ∙ ap (λ x. bytes_in x (suc (clocks - left))) quiet.0 in
    (ap (after_clocks w) parts ∙ a, ap (bytes_in w) parts ∙ b)

test_le : (a b : ℕ) → IsTrue (nat_le a b) → a ≤ b
test_le a b h = grind (arith, nat_tests)

test_eq : (a b : ℕ) → IsTrue (a == b) → a ≡ b
test_eq a b h = grind (arith, nat_tests)

-- a row is drawn on lines 1 to 239, at 1096
and_left : (a b : Bool) → IsTrue (a && b) → IsTrue a
and_left true b h = refl
and_left false b h = h

and_right : (a b : Bool) → IsTrue (a && b) → IsTrue b
and_right true b h = h
and_right false b h = absurd (cc)

pub record DrawsAt (b : BeamValue) : Type 0 where
  pub first : 1 ≤ b.v
  pub last : b.v ≤ 239
  pub clock : b.h ≡ 1096

pub draws_at : (overscan : Bool) (b : BeamValue) → IsTrue (happens_next overscan b).draw → DrawsAt (beam_next overscan b)
unfolding happens_next happens_at beam_next
draws_at overscan b h =
    let v = next_v b.region b.v b.h in
    let x = next_h b.h in
    let both = and_left ((x == 1096) && nat_le 1 v) (nat_le v 239) h in
    let low = and_right (x == 1096) (nat_le 1 v) both in
    let high = and_right ((x == 1096) && nat_le 1 v) (nat_le v 239) h in
    let there = and_left (x == 1096) (nat_le 1 v) both in
    record { first = test_le 1 v low; last = test_le v 239 high; clock = test_eq x 1096 there }

-- the room for the rows to come
pub room_left : (h left clocks h' : ℕ) (draws : Bool) → 0 < left → left ≤ clocks → clocks ≤ 40 → h + left ≤ 1364
    → h' ≡ (if h + left == 1364 then 0 else h + left) → (IsTrue draws → h' ≡ 1096)
    → (if draws then 1024 else 0) + room_for h' (clocks - left) ≤ room_for h clocks
unfolding room_for
room_left h left clocks h' true some enough few line there at =
    let a : h' ≡ 1096 = at refl in
    grind (arith, nat_tests)
room_left h left clocks h' false some enough few line there at = grind (arith, nat_tests)
