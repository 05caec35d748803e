-- What contracts see of a whole, which is both passes in one. This project's own profile.
use Rattle.std.specs.Prelude.{◌≡◌, ℕ, ◌≤◌, [], None}
use Rattle.snes_defs.specs.declared.ports.Side.TheVariants.{Console, Sound}
use Rattle.port_entries.specs.Entry.{CarryBytes}
use Rattle.port_wire.specs.Seen.{Both, parted}
use Rattle.port_wire.specs.Seen as seen
use Rattle.port_wire.specs.Tally.{no_tally}
use Rattle.port_log.specs.Known.{Here, Half}
use Rattle.port_log.specs.PortsKnown.{PortsKnown}
use Rattle.port_log.specs.Sums.{count_of}
use Rattle.port_log.specs.ListRule.{IsHeard}
use Rattle.port_log.specs.Seating.{half_in}
use Rattle.port_log.specs.Passes.{PassValue, shown, ports_of}
use Rattle.port_wire.specs.declared.counts.Counts.{Counts}
use Rattle.port_log.specs.declared.seats.Seats.{Seats}
use Rattle.port_log.specs.declared.seats.Clocks.{Clocks}

-- a whole: what is seen of each side; how often it was told, and how often it missed the log
pub record WholeValue : Type 0 where
  pub ports : PortsKnown
  pub console : seen.Half
  pub sound : seen.Half
  pub told : ℕ
  pub missed : ℕ

-- what is seen of two seats that stand for both sides
abbrev pub whole_of : Seats → Counts → Counts → WholeValue
whole_of seats console sound = record {
  ports = ports_of seats;
  console = shown (half_in Console seats.list.me.0) console;
  sound = shown (half_in Sound seats.list.me.0) sound;
  told = seats.list.me.0.told;
  missed = seats.lock.me.0.missed;
}

-- the clocks that are kept of a side are those that its half knows
pub record AreKnown (clocks : Clocks) (h : Half) : Type 0 where
  pub own : clocks.own ≡ h.at
  pub known : clocks.known ≡ h.upto

-- two seats that stand for both sides, and the sound side's clocks beside them
pub record StandForBoth (seats : Seats) (sound : Clocks) : Type 0 where
  pub console_here : seats.lock.me.0.console ≡ Here
  pub sound_here : seats.lock.me.0.sound ≡ Here
  pub no_slot : seats.lock.me.1 ≡ []
  pub no_list_slot : seats.list.me.1 ≡ []
  pub has_console : count_of seats.list.me.0.console ≡ 1
  pub has_sound : count_of seats.list.me.0.sound ≡ 1
  pub no_book : seats.list.me.0.book ≡ None
  pub names_list : seats.lock.me.0.list ≡ seats.list.table_id
  pub console_clocks : AreKnown seats.clocks (half_in Console seats.list.me.0)
  pub sound_clocks : AreKnown sound (half_in Sound seats.list.me.0)

-- a side of which nothing was logged, heard or refused
abbrev pub new_half : seen.Half
new_half = record { mine = []; at = 0; heard = []; upto = 0; known = 0; tally = no_tally }

-- the whole of new ports
abbrev pub new_whole : PortsKnown → WholeValue
new_whole ports = record { ports = ports; console = new_half; sound = new_half; told = 0; missed = 0 }

-- the two passes of a whole: their tallies begin anew
abbrev pub console_pass : WholeValue → PassValue
console_pass w = record {
  ports = w.ports;
  side = Console;
  half = parted w.console;
  told = w.told;
  missed = w.missed;
}

abbrev pub sound_pass : WholeValue → PassValue
sound_pass w = record {
  ports = w.ports;
  side = Sound;
  half = parted w.sound;
  told = 0;
  missed = 0;
}

-- each side has heard a beginning of what the other logged, which has all of it stamped before its
-- `upto`, and the other has published that stamp
pub record IsReunited (w : WholeValue) : Type 0 where
  pub console : IsHeard w.console.heard w.sound.mine w.console.upto
  pub sound : IsHeard w.sound.heard w.console.mine w.sound.upto
  pub console_upto : w.console.upto ≤ w.sound.at
  pub sound_upto : w.sound.upto ≤ w.console.at
  pub console_bytes : CarryBytes w.console.mine
  pub sound_bytes : CarryBytes w.sound.mine

-- what two workers see of a whole
abbrev pub both_of : WholeValue → Both
both_of w = record { console = w.console; sound = w.sound }

-- the whole is that of these ports
abbrev pub IsWholeOf : PortsKnown → WholeValue → Type 0
IsWholeOf ports w = w.ports ≡ ports
