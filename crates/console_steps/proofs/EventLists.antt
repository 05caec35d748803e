-- Events one list after another.
use Rattle.std.proofs.Common.{◌≡◌, List, [], ◌∷◌, ◌++◌, refl, sym, ap, ◌∙◌, append_assoc, append-nil}
use Rattle.beam.specs.declared.events.Event.TheVariants.{Draw, HdmaLine, Timer}
use Rattle.beam.specs.declared.events.Happens.{Happens}
use Rattle.beam.specs.Events.{one_if, events_of}
use Rattle.console_steps.specs.Parts.{first_of, last_of}
use Rattle.beam.specs.declared.events.Event.{Event}
use Rattle.console_bus.specs.Happenings.{emitted_at}
use Rattle.console_steps.specs.ConsoleState.{ConsoleState, after_event, after_events, bytes_of_events}

pub events_joined : (w : ConsoleState) (es fs : List Event) → after_events w (es ++ fs) ≡ after_events (after_events w es) fs
events_joined w [] fs = refl
events_joined w (e ∷ es) fs = events_joined (after_event w e) es fs

pub bytes_joined : (w : ConsoleState) (es fs : List Event) → bytes_of_events w (es ++ fs) ≡ bytes_of_events w es ++ bytes_of_events (after_events w es) fs
bytes_joined w [] fs = refl
bytes_joined w (e ∷ es) fs =
    ap (λ x. emitted_at w.rest e ++ x) (bytes_joined (after_event w e) es fs)
    ∙ sym (append_assoc (emitted_at w.rest e) (bytes_of_events (after_event w e) es) (bytes_of_events (after_events (after_event w e) es) fs))

-- four lists of events one after another
pub four_joined : (w : ConsoleState) (a b d e : List Event) → after_events w (a ++ b ++ d ++ e) ≡ after_events (after_events (after_events (after_events w a) b) d) e
four_joined w a b d e =
    events_joined w (a ++ b ++ d) e
    ∙ ap (λ x. after_events x e) (events_joined w (a ++ b) d ∙ ap (λ x. after_events x d) (events_joined w a b))

-- the events of a place: those before a row is drawn, the row, those after
pub split_events : (h : Happens) → events_of h ≡ (first_of h ++ one_if h.draw Draw) ++ last_of h
unfolding events_of
split_events h = append_assoc (first_of h ++ one_if h.draw Draw) (one_if h.hdma_line HdmaLine) (one_if h.timer Timer)

pub after_split : (w : ConsoleState) (h : Happens) → after_events w (events_of h) ≡ after_events (after_events (after_events w (first_of h)) (one_if h.draw Draw)) (last_of h)
after_split w h =
    ap (after_events w) (split_events h)
    ∙ events_joined w (first_of h ++ one_if h.draw Draw) (last_of h)
    ∙ ap (λ x. after_events x (last_of h)) (events_joined w (first_of h) (one_if h.draw Draw))

pub bytes_split : (w : ConsoleState) (h : Happens) → bytes_of_events w (first_of h) ≡ [] → bytes_of_events (after_events w (first_of h ++ one_if h.draw Draw)) (last_of h) ≡ []
    → bytes_of_events w (events_of h) ≡ bytes_of_events (after_events w (first_of h)) (one_if h.draw Draw)
bytes_split w h none_first none_last =
    ap (bytes_of_events w) (split_events h)
    ∙ bytes_joined w (first_of h ++ one_if h.draw Draw) (last_of h)
    ∙ ap (λ x. bytes_of_events w (first_of h ++ one_if h.draw Draw) ++ x) none_last
    ∙ append-nil (bytes_of_events w (first_of h ++ one_if h.draw Draw))
    ∙ bytes_joined w (first_of h) (one_if h.draw Draw)
    ∙ ap (λ x. x ++ bytes_of_events (after_events w (first_of h)) (one_if h.draw Draw)) none_first
