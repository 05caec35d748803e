-- What a call over a whole does: it is the log call of its name on the two lists. This project's own profile.
use Rattle.std.specs.Prelude.{◌≡◌, ℕ, ◌+◌, List, ◌++◌, Result, Ok, Err}
use Rattle.snes_defs.specs.declared.ports.Side.{Side}
use Rattle.snes_defs.specs.declared.ports.Side.TheVariants.{Console, Sound}
use Rattle.port_entries.specs.Entry.{Entry}
use Rattle.port_entries.specs.LastValue.{last_value}
use Rattle.port_entries.specs.Window.{IsSettled, IsWithinWindow}
use Rattle.port_log.specs.Kept.{other_side}
use Rattle.port_log.specs.Refused.{IsBehind, IsAhead}
use Rattle.port_log.specs.declared.late.Late.{Late}
use Rattle.port_log.specs.declared.late.Late.TheVariants.{Behind, Ahead}
use Rattle.port_wire.specs.Seen.{Half}
use Rattle.port_log.specs.declared.seats.Clocks.{Clocks}
use Rattle.port_log.specs.Wholes.{WholeValue}

-- what is seen of a side of a whole, and of the side across the ports
abbrev pub own_half : Side → WholeValue → Half
own_half Console w = w.console
own_half Sound w = w.sound

abbrev pub other_half : Side → WholeValue → Half
other_half side w = own_half (other_side side) w

-- a side after it logged some entries and published a clock
abbrev pub having_logged : List Entry → ℕ → Half → Half
having_logged es clock h = record h { mine = h.mine ++ es; at = clock }

-- a side that has heard all of the other's list
abbrev pub having_heard : Half → Half → Half
having_heard other h = record h { heard = other.mine; upto = other.at; known = other.at }

-- a whole after a call of a side that logged some entries and published a clock: both sides have heard all
abbrev pub whole_after : Side → List Entry → ℕ → WholeValue → WholeValue
whole_after Console es clock w = record w {
  console = having_heard w.sound (having_logged es clock w.console);
  sound = having_heard (having_logged es clock w.console) w.sound;
  told = w.told + 1;
}
whole_after Sound es clock w = record w {
  console = having_heard (having_logged es clock w.sound) w.console;
  sound = having_heard w.console (having_logged es clock w.sound);
  told = w.told + 1;
}

-- a look at the ports at a stamp is refused exactly where the other side's clock is too early
abbrev pub IsLateLook : Side → ℕ → Late → WholeValue → Type 0
IsLateLook side at (Behind need other) w =
    (need ≡ at) × (other ≡ (other_half side w).at) × IsBehind side at (other_half side w).at
IsLateLook side at (Ahead stamp other) w = ⊥

-- a read answers the last value by the two lists
abbrev pub ReadsWhole : Side → ℕ → ℕ → Result ℕ Late → WholeValue → Type 0
ReadsWhole side at port (Ok byte) w =
    (byte ≡ last_value side (own_half side w).mine port at (other_half side w).mine)
    × IsSettled side at (other_half side w).at
ReadsWhole side at port (Err late) w = IsLateLook side at late w

abbrev pub ClearsWhole : {A : Type 0} → Side → ℕ → Result A Late → WholeValue → Type 0
ClearsWhole side at (Ok done) w = IsSettled side at (other_half side w).at
ClearsWhole side at (Err late) w = IsLateLook side at late w

-- a write is refused exactly where it lies past the window
abbrev pub IsLateWrite : ℕ → Side → ℕ → Late → WholeValue → Type 0
IsLateWrite window side at (Behind need other) w = ⊥
IsLateWrite window side at (Ahead stamp other) w =
    (stamp ≡ at) × (other ≡ (other_half side w).at) × IsAhead window at (other_half side w).at

abbrev pub WritesWhole : {A : Type 0} → ℕ → Side → ℕ → Result A Late → WholeValue → Type 0
WritesWhole window side at (Ok done) w = IsWithinWindow window at (other_half side w).at
WritesWhole window side at (Err late) w = IsLateWrite window side at late w

-- the clocks of each side after a call of a side, which was told the other's: so each knows the other's
abbrev pub console_clocks : Side → Clocks → Clocks
console_clocks Console told = told
console_clocks Sound told = record { own = told.known; known = told.own }

abbrev pub sound_clocks : Side → Clocks → Clocks
sound_clocks Console told = record { own = told.known; known = told.own }
sound_clocks Sound told = told
