-- What contracts see of a pass, and what a call over it does beside its answer. This project's own profile.
use Rattle.std.specs.Prelude.{◌≡◌, ℕ, ◌+◌, None}
use Rattle.snes_defs.specs.declared.ports.Side.{Side}
use Rattle.port_wire.specs.Seen.{Seen}
use Rattle.port_wire.specs.Seen as seen
use Rattle.port_log.specs.Kept.{other_side}
use Rattle.port_log.specs.Known.{Half, Away}
use Rattle.port_wire.specs.Counts.{tally_of}
use Rattle.port_log.specs.PortsKnown.{PortsKnown}
use Rattle.port_log.specs.LockRule.{part_in}
use Rattle.port_log.specs.Seating.{half_option, half_in, AreIdle}
use Rattle.port_wire.specs.declared.counts.Counts.{Counts}
use Rattle.port_log.specs.declared.seats.Seats.{Seats}

-- a pass: its side, what is seen of that; how often it was told, and how often it missed the log
pub record PassValue : Type 0 where
  pub ports : PortsKnown
  pub side : Side
  pub half : seen.Half
  pub told : ℕ
  pub missed : ℕ

-- what is seen of a side, by what its seat knows and its counts. It was told last the clock up to which
-- it has heard all
abbrev pub shown : Half → Counts → seen.Half
shown h counts = record {
  mine = h.mine;
  at = h.at;
  heard = h.heard;
  upto = h.upto;
  known = h.upto;
  tally = tally_of counts;
}

-- the ports that two seats are seats of
abbrev pub ports_of : Seats → PortsKnown
ports_of seats = record {
  lock = seats.lock.table_id;
  list = seats.list.table_id;
  region = seats.lock.me.0.region;
}

-- what is seen of two seats that stand for a side
abbrev pub pass_of : Side → Seats → Counts → PassValue
pass_of side seats counts = record {
  ports = ports_of seats;
  side = side;
  half = shown (half_in side seats.list.me.0) counts;
  told = seats.list.me.0.told;
  missed = seats.lock.me.0.missed;
}

-- two seats that stand for one side alone
pub record StandFor (side : Side) (seats : Seats) : Type 0 where
  pub idle : AreIdle side seats
  pub away : part_in (other_side side) seats.lock.me.0 ≡ Away
  pub no_other : half_option (other_side side) seats.list.me.0 ≡ None
  pub names_list : seats.lock.me.0.list ≡ seats.list.table_id
  pub own : seats.clocks.own ≡ (half_in side seats.list.me.0).at
  pub known : seats.clocks.known ≡ (half_in side seats.list.me.0).upto

-- the call found the other side's number in the turn word: it counted that, and changed nothing but the tally
pub record IsMissed (by : Side) (old new : PassValue) : Type 0 where
  pub other : by ≡ other_side old.side
  pub new_is : new ≡ record old {
    half = record old.half { tally = new.half.tally };
    missed = old.missed + 1;
  }

-- the call had the log, and was told what it says
pub record WasTold (old new : PassValue) : Type 0 where
  pub told : new.told ≡ old.told + 1
  pub missed : new.missed ≡ old.missed

-- what two workers see of a pass
abbrev pub seen_of : PassValue → Seen
seen_of p = record { side = p.side; half = p.half }

-- the pass is one of these ports
abbrev pub IsPassOf : PortsKnown → PassValue → Type 0
IsPassOf ports p = p.ports ≡ ports
