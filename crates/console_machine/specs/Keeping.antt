-- What a step keeps and how far it goes: the region, the beam on its line, the clocks, the bytes of one row.
use Rattle.std.proofs.Common.{◌≡◌, ℕ, zero, suc, ◌+◌, ◌-◌, ◌<◌, ◌≤◌, ◌==◌, ◌&&◌, nat_lt, nat_le, Bool, true, false, IsTrue, List, [], ◌∷◌, ◌++◌, length, length-append, refl, sym, ap, subst, ◌∙◌, arith, add-zero, if◌then◌else◌}
use Rattle.std.proofs.lemmas.Bool.Decides.{nat_tests}
use Rattle.cart_map.specs.declared.places.Place.{Place}
use Rattle.cart_map.specs.declared.places.Place.TheVariants.{Wram, Rom, Ram, BBus, Cpu, Open}
use Rattle.cpu_tables.specs.declared.access.Access.{Access}
use Rattle.cpu_tables.specs.declared.access.Access.TheVariants.{Fetch, Read, Write, Inner}
use Rattle.dma_hdma.specs.declared.moves.Move.{Move}
use Rattle.dma_hdma.specs.declared.moves.Move.TheVariants.{ToB, ToA, Load}
use Rattle.beam.specs.declared.events.Event.{Event}
use Rattle.beam.specs.declared.events.Event.TheVariants.{Line, Blank, HdmaFrame, Refresh, Draw, HdmaLine, Timer}
use Rattle.beam.specs.declared.events.Happens.{Happens}
use Rattle.beam.specs.Events.{BeamValue, one_if, events_of, happens_next, beam_next, next_h}
use Rattle.console_bus.specs.BusState.{BusState}
use Rattle.console_bus.specs.Places.{register_read, register_written, chip_read, chip_written, place_read, place_written, a_side, place_at, taken_from, register_byte, on_bus}
use Rattle.console_bus.specs.Happenings.{emitted_at, was_reset, row_bytes}
use Rattle.console_steps.specs.ConsoleState.{ConsoleState, Due, Resets, Refreshes, Moves_byte, Accesses, rest_after, moved, events_next, after_event, after_events, bytes_of_events, after_clocks, bytes_in, overscan_of}
use Rattle.console_steps.specs.Draws.{room_for}
use Rattle.console_steps.proofs.Beams.{happened_beam, length-row_bytes}
use Rattle.console_steps.proofs.EventLists.{bytes_joined}
use Rattle.console_steps.proofs.Clocks.{draws_at, room_left}

-- ---- the beam's region and line clock, over an effect

-- two states of the bus with the beam in one place
pub record SameBeam (r q : BusState) : Type 0 where
  pub region : q.beam.region ≡ r.beam.region
  pub clock : q.beam.h ≡ r.beam.h

same_itself : (r : BusState) → SameBeam r r
same_itself r = record { region = refl; clock = refl }

joined : (a b d : BusState) → SameBeam a b → SameBeam b d → SameBeam a d
joined a b d f g = record { region = g.region ∙ f.region; clock = g.clock ∙ f.clock }

either : (b : Bool) (r x y : BusState) → SameBeam r x → SameBeam r y → SameBeam r (if b then x else y)
either true r x y h k = h
either false r x y h k = k

unmoved : (r q : BusState) → q.beam ≡ r.beam → SameBeam r q
unmoved r q e = record { region = ap (λ b. b.region) e; clock = ap (λ b. b.h) e }

read_register_beam : (r : BusState) (n : ℕ) → SameBeam r (register_read r n)
unfolding register_read
read_register_beam r n = either (nat_lt n 0x40) r _ _ (unmoved r _ refl) (either (n == 0x80) r _ _ (unmoved r _ refl) (same_itself r))

written_register_beam : (r : BusState) (n v : ℕ) → SameBeam r (register_written r n v)
unfolding register_written
written_register_beam r n v =
    either (nat_lt n 0x40) r _ _ (unmoved r _ refl)
    (either (n == 0x80) r _ _ (unmoved r _ refl)
    (either (n == 0x81) r _ _ (unmoved r _ refl)
    (either (n == 0x82) r _ _ (unmoved r _ refl)
    (either (n == 0x83) r _ _ (unmoved r _ refl) (same_itself r)))))

read_chip_beam : (r : BusState) (n : ℕ) → SameBeam r (chip_read r n)
unfolding chip_read
read_chip_beam r n = either (nat_le 0x4300 n && nat_le n 0x437f) r _ _ (same_itself r) (unmoved r _ refl)

written_chip_beam : (r : BusState) (n v : ℕ) → SameBeam r (chip_written r n v)
unfolding chip_written
written_chip_beam r n v =
    either (nat_le 0x4300 n && nat_le n 0x437f) r _ _ (unmoved r _ refl)
    (either (n == 0x420b) r _ _ (unmoved r _ refl)
    (either (n == 0x420c) r _ _ (unmoved r _ refl) (record { region = refl; clock = refl })))

read_place_beam : (r : BusState) (p : Place) → SameBeam r (place_read r p)
read_place_beam r (Wram i) = same_itself r
read_place_beam r (Ram i) = same_itself r
read_place_beam r (Rom i) = same_itself r
read_place_beam r (BBus n) = read_register_beam r n
read_place_beam r (Cpu n) = read_chip_beam r n
read_place_beam r Open = same_itself r

written_place_beam : (r : BusState) (p : Place) (v : ℕ) → SameBeam r (place_written r p v)
written_place_beam r (Wram i) v = unmoved r _ refl
written_place_beam r (Ram i) v = unmoved r _ refl
written_place_beam r (Rom i) v = same_itself r
written_place_beam r (BBus n) v = written_register_beam r n v
written_place_beam r (Cpu n) v = written_chip_beam r n v
written_place_beam r Open v = same_itself r

reset_beam : (r : BusState) → SameBeam r (was_reset r)
unfolding was_reset
reset_beam r = record { region = refl; clock = refl }

access_beam : (r : BusState) (a : Access) (got : ℕ) → SameBeam r (rest_after r (Accesses a) got)
access_beam r (Fetch addr) got = record { region = (read_place_beam r (place_at r.board addr)).region; clock = (read_place_beam r (place_at r.board addr)).clock }
access_beam r (Read addr) got = record { region = (read_place_beam r (place_at r.board addr)).region; clock = (read_place_beam r (place_at r.board addr)).clock }
access_beam r (Write addr v) got = record { region = (written_place_beam r (place_at r.board addr) v).region; clock = (written_place_beam r (place_at r.board addr) v).clock }
access_beam r Inner got = same_itself r

move_beam : (r : BusState) (m : Move) (got : ℕ) → SameBeam r (rest_after r (Moves_byte m) got)
move_beam r (ToB from port) got =
    let byte = taken_from r from in
    let put = written_register_beam (on_bus r byte) port byte in
    record { region = put.region; clock = put.clock }
move_beam r (ToA port to) got =
    let byte = register_byte r port got in
    let read = on_bus (register_read r port) byte in
    let first = read_register_beam r port in
    let put = written_place_beam read (a_side (place_at read.board to)) byte in
    record { region = put.region ∙ first.region; clock = put.clock ∙ first.clock }
move_beam r (Load from) got = record { region = refl; clock = refl }

pub effect_beam : (r : BusState) (d : Due) (got : ℕ) → SameBeam r (rest_after r d got)
effect_beam r Resets got = reset_beam r
effect_beam r Refreshes got = record { region = refl; clock = refl }
effect_beam r (Moves_byte m) got = move_beam r m got
effect_beam r (Accesses a) got = access_beam r a got

-- ---- the clocks that pass

events_keep : (w : ConsoleState) (es : List Event) → ((after_events w es).rest.beam ≡ w.rest.beam) × ((after_events w es).clock ≡ w.clock)
events_keep w [] = (refl, refl)
events_keep w (e ∷ es) =
    let rest = events_keep (after_event w e) es in
    (rest.0 ∙ happened_beam w.rest e, rest.1)

-- one master clock on, the beam is on a line of its region
next_region : (overscan : Bool) (b : BeamValue) → (beam_next overscan b).region ≡ b.region
unfolding beam_next
next_region overscan b = refl

next_clock : (overscan : Bool) (b : BeamValue) → (beam_next overscan b).h ≡ next_h b.h
unfolding beam_next
next_clock overscan b = refl

next_h_within : (h : ℕ) → h < 1364 → next_h h < 1364
unfolding next_h
next_h_within h l = grind (arith, nat_tests)

next_h_is : (h : ℕ) → h < 1364 → next_h h ≡ (if h + 1 == 1364 then 0 else h + 1)
unfolding next_h
next_h_is h l = grind (arith, nat_tests)

-- a console state some clocks on
pub record IsLater (w : ConsoleState) (clocks : ℕ) (x : ConsoleState) : Type 0 where
  pub region : x.rest.beam.region ≡ w.rest.beam.region
  pub line : x.rest.beam.h < 1364
  pub clock : x.clock ≡ w.clock + clocks

-- one clock on
one_clock : (w : ConsoleState) → w.rest.beam.h < 1364 → IsLater w 1 (after_events (moved w) (events_next w))
one_clock w line =
    let keep = events_keep (moved w) (events_next w) in
    let P : BeamValue → Type 0 = λ b. b.h < 1364 in
    let there : (beam_next (overscan_of w) w.rest.beam).h < 1364 = rw (next_clock (overscan_of w) w.rest.beam) (next_h_within w.rest.beam.h line) in
    record {
      region = ap (λ b. b.region) keep.0 ∙ next_region (overscan_of w) w.rest.beam;
      line = subst P (sym keep.0) there;
      clock = keep.1;
    }

pub clocks_keep : (w : ConsoleState) (k : ℕ) → w.rest.beam.h < 1364 → IsLater w k (after_clocks w k)
unfolding after_clocks
clocks_keep w zero line = record { region = refl; line = line; clock = sym (add-zero w.clock) }
clocks_keep w (suc k) line =
    let one = one_clock w line in
    let rest = clocks_keep (after_events (moved w) (events_next w)) k one.line in
    let first = one.clock in
    let last = rest.clock in
    record { region = rest.region ∙ one.region; line = rest.line; clock = omega arith }

-- ---- the bytes that are emitted

abbrev row_if : Bool → ℕ
row_if draws = if draws then 1024 else 0

silent : (w : ConsoleState) (b : Bool) (e : Event) → emitted_at w.rest e ≡ [] → length (bytes_of_events w (one_if b e)) ≡ 0
silent w true e h = ap length (ap (λ x. x ++ []) h)
silent w false e h = refl

row_length : (w : ConsoleState) (b : Bool) → length (bytes_of_events w (one_if b Draw)) ≡ row_if b
row_length w true = length-append (row_bytes w.rest) [] ∙ (let e = length-row_bytes w.rest in omega arith)
row_length w false = refl

add_length : (w : ConsoleState) (es fs : List Event) (m n : ℕ) → length (bytes_of_events w es) ≡ m → length (bytes_of_events (after_events w es) fs) ≡ n → length (bytes_of_events w (es ++ fs)) ≡ m + n
add_length w es fs m n a b =
    ap length (bytes_joined w es fs) ∙ length-append (bytes_of_events w es) (bytes_of_events (after_events w es) fs) ∙ (omega arith)

-- the events of a place emit a row or nothing
place_length : (w : ConsoleState) (h : Happens) → length (bytes_of_events w (events_of h)) ≡ row_if h.draw
unfolding events_of
place_length w h =
    let a = one_if h.line Line in
    let b = a ++ one_if h.blank Blank in
    let d = b ++ one_if h.hdma_frame HdmaFrame in
    let e = d ++ one_if h.refresh Refresh in
    let f = e ++ one_if h.draw Draw in
    let g = f ++ one_if h.hdma_line HdmaLine in
    let la = silent w h.line Line refl in
    let lb = add_length w a (one_if h.blank Blank) 0 0 la (silent (after_events w a) h.blank Blank refl) in
    let ld = add_length w b (one_if h.hdma_frame HdmaFrame) 0 0 lb (silent (after_events w b) h.hdma_frame HdmaFrame refl) in
    let le = add_length w d (one_if h.refresh Refresh) 0 0 ld (silent (after_events w d) h.refresh Refresh refl) in
    let lf = add_length w e (one_if h.draw Draw) 0 (row_if h.draw) le (row_length (after_events w e) h.draw) in
    let lg = add_length w f (one_if h.hdma_line HdmaLine) (row_if h.draw) 0 (lf ∙ omega arith) (silent (after_events w f) h.hdma_line HdmaLine refl) in
    add_length w g (one_if h.timer Timer) (row_if h.draw) 0 (lg ∙ omega arith) (silent (after_events w g) h.timer Timer refl) ∙ omega arith

pub bytes_fit : (w : ConsoleState) (k : ℕ) → w.rest.beam.h < 1364 → k ≤ 40 → length (bytes_in w k) ≤ room_for w.rest.beam.h k
unfolding bytes_in
bytes_fit w zero line few = omega arith
bytes_fit w (suc k) line few =
    let o = overscan_of w in
    let b = w.rest.beam in
    let next = after_events (moved w) (events_next w) in
    let one = one_clock w line in
    let keep = events_keep (moved w) (events_next w) in
    let there : next.rest.beam.h ≡ (if b.h + 1 == 1364 then 0 else b.h + 1) = ap (λ x. x.h) keep.0 ∙ next_clock o b ∙ next_h_is b.h line in
    let draws : IsTrue (happens_next o b).draw → next.rest.beam.h ≡ 1096 = λ d. ap (λ x. x.h) keep.0 ∙ (draws_at o b d).clock in
    let room = room_left b.h 1 (suc k) next.rest.beam.h (happens_next o b).draw (omega arith) (omega arith) few (omega arith) there draws in
    let less : suc k - 1 ≡ k = omega arith in
    let room' = rw less at room in
    let here = place_length (moved w) (happens_next o b) in
    let rest = bytes_fit next k one.line (omega arith) in
    let sum = length-append (bytes_of_events (moved w) (events_next w)) (bytes_in next k) in
    omega arith
