-- What the bus says of its clocks, told of the console state that it is at.
use Rattle.std.proofs.Common.{◌≡◌, ℕ, IsTrue, true, false, ◌+◌, ◌==◌, if◌then◌else◌, arith, ◌-◌, ◌<◌, ◌≤◌, ◌++◌, [], Bool, subst, ap, sym, ◌∙◌}
use Rattle.beam.specs.declared.events.Happens.{Happens}
use Rattle.beam.specs.Events.{events_of, happens_next, beam_next, beam_after, passed}
use Rattle.cpu65816.specs.declared.processor.Cpu.{Cpu}
use Rattle.console_bus.specs.BusState.{BusState}
use Rattle.console_steps.specs.ConsoleState.{ConsoleState, after_events, bytes_of_events, after_clocks, bytes_in}
use Rattle.console_steps.specs.Stands.{IsAt}
use Rattle.console_steps.proofs.Clocks.{quiet_clocks, drifted, arrived, arrival, clocks_to_place, DrawsAt, draws_at, room_left}
use Rattle.console_steps.specs.Draws.{room_for}

abbrev pub overscan : BusState → Bool
overscan r = r.picture.registers.settings.overscan

-- a console state's clocks in which nothing happens
pub went_on : (cpu : Cpu) (old new : BusState) (w : ConsoleState) (k : ℕ) → IsAt cpu old w → passed (overscan old) old.beam k ≡ []
    → new ≡ record old { beam = beam_after (overscan old) old.beam k } → IsAt cpu new (after_clocks w k) × (bytes_in w k ≡ [])
went_on cpu old new w k at none move =
    let P : BusState → Type 0 = λ r. passed (overscan r) r.beam k ≡ [] in
    let q = quiet_clocks w k (subst P at.rest none) in
    let here : IsAt cpu new (drifted w k) = record { processor = at.processor; rest = move ∙ ap {A = BusState} {B = BusState} (λ r. record r { beam = beam_after (overscan r) r.beam k }) at.rest } in
    let Q : ConsoleState → Type 0 = λ x. IsAt cpu new x in
    (subst Q (sym q.0) here, q.1)

-- a console state that has come to a place
pub arrives : (cpu : Cpu) (old new : BusState) (w : ConsoleState) (left : ℕ) → IsAt cpu old w
    → new ≡ record old { beam = beam_next (overscan old) (beam_after (overscan old) old.beam (left - 1)) } → IsAt cpu new (arrived w left)
arrives cpu old new w left at move =
    record { processor = at.processor; rest = move ∙ ap {A = BusState} {B = BusState} (λ r. record r { beam = beam_next (overscan r) (beam_after (overscan r) r.beam (left - 1)) }) at.rest }

pub happens_there : (old : BusState) (w : ConsoleState) (left : ℕ) (happens : Happens) → old ≡ w.rest
    → happens ≡ happens_next (overscan old) (beam_after (overscan old) old.beam (left - 1)) → events_of happens ≡ arrival w left
happens_there old w left happens e h = ap events_of (h ∙ ap (λ r. happens_next (overscan r) (beam_after (overscan r) r.beam (left - 1))) e)

-- the clocks of a console state up to the place, and those after it
pub passes_place : (old : BusState) (w : ConsoleState) (left clocks : ℕ) → old ≡ w.rest → 0 < left → left ≤ clocks → passed (overscan old) old.beam (left - 1) ≡ []
    → (after_clocks w clocks ≡ after_clocks (after_events (arrived w left) (arrival w left)) (clocks - left))
    × (bytes_in w clocks ≡ bytes_of_events (arrived w left) (arrival w left) ++ bytes_in (after_events (arrived w left) (arrival w left)) (clocks - left))
passes_place old w left clocks e some enough none =
    let P : BusState → Type 0 = λ r. passed (overscan r) r.beam (left - 1) ≡ [] in
    clocks_to_place w left clocks some enough (subst P e none)

-- where a row is drawn
pub drawn : (old new : BusState) (happens : Happens) (left : ℕ)
    → happens ≡ happens_next (overscan old) (beam_after (overscan old) old.beam (left - 1))
    → new ≡ record old { beam = beam_next (overscan old) (beam_after (overscan old) old.beam (left - 1)) }
    → IsTrue happens.draw → DrawsAt new.beam
drawn old new happens left last move d =
    let b = beam_after (overscan old) old.beam (left - 1) in
    let P : Happens → Type 0 = λ x. IsTrue x.draw in
    let Q : BusState → Type 0 = λ r. DrawsAt r.beam in
    subst Q (sym move) (draws_at (overscan old) b (subst P last d))

-- .. and the room for it and the rows after it
pub room_after : (old new : BusState) (happens : Happens) (left clocks : ℕ)
    → happens ≡ happens_next (overscan old) (beam_after (overscan old) old.beam (left - 1))
    → new ≡ record old { beam = beam_next (overscan old) (beam_after (overscan old) old.beam (left - 1)) }
    → 0 < left → left ≤ clocks → clocks ≤ 40 → old.beam.h + left ≤ 1364
    → new.beam.h ≡ (if old.beam.h + left == 1364 then 0 else old.beam.h + left)
    → (if happens.draw then 1024 else 0) + room_for new.beam.h (clocks - left) ≤ room_for old.beam.h clocks
room_after old new happens left clocks last move some enough few line there =
    room_left old.beam.h left clocks new.beam.h happens.draw some enough few line there (λ d. (drawn old new happens left last move d).clock)

-- with a row there is room for it
pub room_of_row : (draws : Bool) (n rest h capacity : ℕ) → (if draws then 1024 else 0) + rest ≤ h → n + h ≤ capacity → IsTrue draws → n + 1024 ≤ capacity
room_of_row true n rest h capacity a b d = omega arith
room_of_row false n rest h capacity a b d = absurd (cc)
