use Rattle.std.proofs.Common.{◌≡◌, ◌-◌, ◌++◌, List, length, sym, ap, subst, ◌∙◌, arith, append-nil, append_assoc}
use Rattle.beam.specs.Places.{clocks_left}
use Rattle.console_steps.specs.ConsoleState.{after_events, bytes_of_events, bytes_in}
use Rattle.console_steps.specs.Draws.{room_for}
use Rattle.console_steps.specs.Stands.{IsAt}
use Rattle.console_steps.specs.Parts.{first_of}
use Rattle.console_steps.proofs.EventLists.{after_split, bytes_split}
use Rattle.beam.specs.Events.{one_if, events_of}
use Rattle.beam.specs.declared.events.Event.TheVariants.{Draw}
use Rattle.console_steps.proofs.Clocks.{arrived, arrival}
use Rattle.console_steps.proofs.PassSteps.{overscan, went_on, arrives, happens_there, passes_place, drawn, room_after, room_of_row}
use Rattle.beam.specs.declared.events.Event.{Event}
use Rattle.console_steps.proofs.passing.+pass_places.Goals as goal

pub returns-then-clocks-left-clause-at : goal.returns-then-clocks-left-clause-at
returns-then-clocks-left-clause-at t c = λ w at.
    (went_on c.args.cpu.now c.args.bus.now c.go_on.new.self w c.args.clocks at (c.go_on.ensures.none (overscan c.args.bus.now)) c.go_on.ensures.moved).0

pub returns-then-clocks-left-clause-bytes : goal.returns-then-clocks-left-clause-bytes
returns-then-clocks-left-clause-bytes t c = λ w at.
    let q = went_on c.args.cpu.now c.args.bus.now c.go_on.new.self w c.args.clocks at (c.go_on.ensures.none (overscan c.args.bus.now)) c.go_on.ensures.moved in
    rw q.1 (sym (append-nil c.args.waiting.now.items))

pub pass_row-requires-clause-first : goal.pass_row-requires-clause-first
pass_row-requires-clause-first t c = λ d.
    rw c.pass_first.ensures.beam ((drawn c.args.bus.now c.reach-happens.new.self c.reach-happens.result (clocks_left c.args.bus.now.beam) c.reach-happens.ensures.last c.reach-happens.ensures.moved d).first)

pub pass_row-requires-clause-last : goal.pass_row-requires-clause-last
pass_row-requires-clause-last t c = λ d.
    rw c.pass_first.ensures.beam ((drawn c.args.bus.now c.reach-happens.new.self c.reach-happens.result (clocks_left c.args.bus.now.beam) c.reach-happens.ensures.last c.reach-happens.ensures.moved d).last)

pub pass_row-requires-clause-room : goal.pass_row-requires-clause-room
pass_row-requires-clause-room t c = λ d.
    let e = c.clocks_left-left.ensures.clocks in
    let some = c.clocks_left-left.ensures.some in
    let line = c.clocks_left-left.ensures.on_line in
    let enough = c.if-clocks-left.false in
    let left = clocks_left c.args.bus.now.beam in
    let room = room_after c.args.bus.now c.reach-happens.new.self c.reach-happens.result left c.args.clocks
    c.reach-happens.ensures.last c.reach-happens.ensures.moved (omega arith) (omega arith) c.requires.step (omega arith) c.reach-happens.ensures.clock in
    room_of_row c.reach-happens.result.draw (length c.args.waiting.now.items) _ (room_for c.args.bus.now.beam.h c.args.clocks) c.args.waiting.now.capacity room c.requires.room d

pub pass_places-requires : goal.pass_places-requires
pass_places-requires t c =
    let e = c.clocks_left-left.ensures.clocks in
    let some = c.clocks_left-left.ensures.some in
    let line = c.clocks_left-left.ensures.on_line in
    let enough = c.if-clocks-left.false in
    let left = clocks_left c.args.bus.now.beam in
    let step = c.requires.step in
    let here = c.requires.room in
    let room = room_after c.args.bus.now c.reach-happens.new.self c.reach-happens.result left c.args.clocks
    c.reach-happens.ensures.last c.reach-happens.ensures.moved (omega arith) (omega arith) c.requires.step (omega arith) c.reach-happens.ensures.clock in
    let size = c.pass_row.ensures.size in
    let capacity = c.pass_row.ensures.capacity in
    let beam = c.pass_last.ensures.beam ∙ c.pass_row.ensures.beam ∙ c.pass_first.ensures.beam in
    (omega arith, (omega arith, rw (beam, e) (omega arith)))

-- the events of the place, told of the console state that has arrived there
pub returns-clause-at : goal.returns-clause-at
returns-clause-at t c = λ w at.
    let e = c.clocks_left-left.ensures.clocks in
    let some = c.clocks_left-left.ensures.some in
    let enough = c.if-clocks-left.false in
    let left = clocks_left c.args.bus.now.beam in
    let there = arrives c.args.cpu.now c.args.bus.now c.reach-happens.new.self w left at c.reach-happens.ensures.moved in
    let events = happens_there c.args.bus.now w left c.reach-happens.result at.rest c.reach-happens.ensures.last in
    let next = after_events (arrived w left) (arrival w left) in
    let h = c.reach-happens.result in
    let w0 = arrived w left in
    let w1 = after_events w0 (first_of h) in
    let w2 = after_events w1 (one_if h.draw Draw) in
    let first = c.pass_first.ensures.at w0 there in
    let placed : IsAt c.pass_last.new.cpu c.pass_last.new.bus (after_events w0 (events_of h)) =
    rw (after_split w0 h) (c.pass_last.ensures.at w2 (c.pass_row.ensures.at w1 first)) in
    let P : List Event → Type 0 = λ es. IsAt c.pass_last.new.cpu c.pass_last.new.bus (after_events w0 es) in
    let after = subst P events placed in
    let parts = passes_place c.args.bus.now w left c.args.clocks at.rest (omega arith) (omega arith) c.reach-happens.ensures.none_before in
    let end = rw e at (c.pass_places.ensures.at next after) in
    rw parts.0 end

pub returns-clause-bytes : goal.returns-clause-bytes
returns-clause-bytes t c = λ w at.
    let e = c.clocks_left-left.ensures.clocks in
    let some = c.clocks_left-left.ensures.some in
    let enough = c.if-clocks-left.false in
    let left = clocks_left c.args.bus.now.beam in
    let there = arrives c.args.cpu.now c.args.bus.now c.reach-happens.new.self w left at c.reach-happens.ensures.moved in
    let events = happens_there c.args.bus.now w left c.reach-happens.result at.rest c.reach-happens.ensures.last in
    let next = after_events (arrived w left) (arrival w left) in
    let h = c.reach-happens.result in
    let w0 = arrived w left in
    let w1 = after_events w0 (first_of h) in
    let w2 = after_events w1 (one_if h.draw Draw) in
    let first = c.pass_first.ensures.at w0 there in
    let placed : IsAt c.pass_last.new.cpu c.pass_last.new.bus (after_events w0 (events_of h)) =
    rw (after_split w0 h) (c.pass_last.ensures.at w2 (c.pass_row.ensures.at w1 first)) in
    let P : List Event → Type 0 = λ es. IsAt c.pass_last.new.cpu c.pass_last.new.bus (after_events w0 es) in
    let old = c.args.waiting.now.items in
    let split = bytes_split w0 h (c.pass_first.ensures.none w0)
    (c.pass_last.ensures.none (after_events w0 (first_of h ++ one_if h.draw Draw))) in
    let row = c.pass_row.ensures.row w1 first ∙ ap (λ x. old ++ x) (sym split) in
    let Q : List Event → Type 0 = λ es. c.pass_row.new.waiting.items ≡ old ++ bytes_of_events w0 es in
    let after = subst P events placed in
    let emitted = subst Q events row in
    let parts = passes_place c.args.bus.now w left c.args.clocks at.rest (omega arith) (omega arith) c.reach-happens.ensures.none_before in
    let rest = rw e at (c.pass_places.ensures.bytes next after) in
    let more = bytes_in next (c.args.clocks - left) in
    rest ∙ ap (λ x. x ++ more) emitted ∙ append_assoc old (bytes_of_events (arrived w left) (arrival w left)) more ∙ ap (λ x. old ++ x) (sym parts.1)

pub returns-clause-size : goal.returns-clause-size
returns-clause-size t c =
    let e = c.clocks_left-left.ensures.clocks in
    let some = c.clocks_left-left.ensures.some in
    let line = c.clocks_left-left.ensures.on_line in
    let enough = c.if-clocks-left.false in
    let left = clocks_left c.args.bus.now.beam in
    let room = room_after c.args.bus.now c.reach-happens.new.self c.reach-happens.result left c.args.clocks
    c.reach-happens.ensures.last c.reach-happens.ensures.moved (omega arith) (omega arith) c.requires.step (omega arith) c.reach-happens.ensures.clock in
    let size = c.pass_row.ensures.size in
    let beam = c.pass_last.ensures.beam ∙ c.pass_row.ensures.beam ∙ c.pass_first.ensures.beam in
    let rest = rw (beam, e) at c.pass_places.ensures.size in
    omega arith
