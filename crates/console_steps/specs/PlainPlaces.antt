-- Places of the beam where nothing comes but a refresh or the next line.
use Rattle.std.specs.Prelude.{◌≡◌, ◌+◌, ◌==◌, ◌&&◌, ◌||◌, ◌-◌, ◌<◌, ◌≤◌, Bool, false, nat_le, IsTrue, [], ◌∷◌}
use Rattle.beam.specs.declared.events.Event.{Event}
use Rattle.beam.specs.declared.events.Happens.{Happens}
use Rattle.beam.specs.Events.{BeamValue, events_of, happens_next, beam_next, beam_after, passed}
use Rattle.beam.specs.Places.{clocks_left}
use Rattle.console_bus.specs.BusState.{BusState}
use Rattle.console_bus.specs.Happenings.{happened, emitted_at}

-- the timer is off, and the next place is that of the refresh, or the end of a line before the last that is always
-- shown
pub record IsPlainAhead (b : BeamValue) : Type 0 where
  pub off : b.timer.kind ≡ 0
  pub place : IsTrue (b.h + clocks_left b == 536 || (b.h + clocks_left b == 1364 && nat_le b.v 223))

abbrev pub overscan_in : BusState → Bool
overscan_in r = r.picture.registers.settings.overscan

-- the bus at the next place, before what happens there, and what that is
abbrev pub reached_there : BusState → BusState
reached_there old = record old {
  beam = beam_next (overscan_in old) (beam_after (overscan_in old) old.beam (clocks_left old.beam - 1));
}

abbrev pub happens_in : BusState → Happens
happens_in old = happens_next (overscan_in old) (beam_after (overscan_in old) old.beam (clocks_left old.beam - 1))

-- the bus has come to such a place: one event is due there, which emits nothing, and of any bus there with these
-- channels changes at most whether a refresh is due. The next place is far then
pub record IsPlainlyThere (old new : BusState) (refresh : Bool) : Type 0 where
  pub event : Event
  pub alone : events_of (happens_in old) ≡ event ∷ []
  pub is : (r : BusState) → r.beam ≡ new.beam → r.channels ≡ old.channels → r.refresh ≡ false
      → happened r event ≡ record r { refresh = refresh }
  pub none : (r : BusState) → emitted_at r event ≡ []
  pub some : 0 < clocks_left old.beam
  pub before : passed (overscan_in old) old.beam (clocks_left old.beam - 1) ≡ []
  pub on : new ≡ reached_there old
  pub far : 536 ≤ clocks_left new.beam
