-- What a log keeps of the two sides, and the byte that it answers by that. This project's own profile.
use Rattle.std.specs.Prelude.{ℕ, ◌+◌, ◌==◌, Bool, false, ◌&&◌, not, max, Option, Some, None, List, [], ◌∷◌, ◌++◌, fold, if◌then◌else◌, length, slice_index, slice_index_or, slice_set}
use Rattle.snes_defs.specs.declared.ports.Side.{Side}
use Rattle.snes_defs.specs.declared.ports.Side.TheVariants.{Console, Sound}
use Rattle.snes_defs.specs.declared.region.Region.{Region}
use Rattle.port_entries.specs.Entry.{covers}
use Rattle.port_entries.specs.LastValue.{sees}
use Rattle.port_log.specs.declared.written.Written.{Written}

abbrev pub other_side : Side → Side
other_side Console = Sound
other_side Sound = Console

-- what is kept of one side
pub record SideValue : Type 0 where
  -- the stamp that it has published: each of its steps to come is at that stamp or later
  pub clock : ℕ
  -- the other side's writes that it doesn't see at its clock yet, in the order in which they were made
  pub waiting : List Written
  -- for each of its four incoming ports the byte that what it sees at its clock has left there
  pub latches : List ℕ
  -- for each of these ports the greatest stamp at which it cleared the port
  pub cleared : List (Option ℕ)

-- what contracts see of a log
pub record LogValue : Type 0 where
  pub region : Region
  pub console : SideValue
  pub sound : SideValue

abbrev pub kept_of : Side → LogValue → SideValue
kept_of Console log = log.console
kept_of Sound log = log.sound

-- the clock that a side has published
abbrev pub clock_of : Side → LogValue → ℕ
clock_of side log = (kept_of side log).clock

-- the clock that the side across the ports has published
abbrev pub other_clock : Side → LogValue → ℕ
other_clock side log = clock_of (other_side side) log

-- how many of the other side's writes a side doesn't see at its clock yet
abbrev pub unseen_by : Side → LogValue → ℕ
unseen_by side log = length (kept_of side log).waiting

-- the greatest stamp at which a side cleared a port, if it ever did
abbrev pub greatest_clear : List (Option ℕ) → ℕ → Option ℕ
greatest_clear cleared port = slice_index_or cleared port None

-- a clear zeroes what the side sees at its stamp. What the greatest one leaves, each one leaves
abbrev pub is_zeroed : Side → Option ℕ → ℕ → Bool
is_zeroed side None written = false
is_zeroed side (Some at) written = sees side written at

-- whether the side finds a write at a stamp: it sees it, and its clears have left it
abbrev pub finds : Side → Option ℕ → ℕ → ℕ → Bool
finds side clear at written = sees side written at && not (is_zeroed side clear written)

-- the byte of a port at a stamp after one more write of the other side
abbrev pub byte_with : Side → Option ℕ → ℕ → ℕ → ℕ → Written → ℕ
byte_with side clear port at byte w =
    if w.port == port && finds side clear at w.at then w.byte else byte

-- the byte of a port at a stamp, by the latch and the greatest clear of the port and the writes that wait
abbrev pub byte_by : Side → Option ℕ → ℕ → ℕ → ℕ → List Written → ℕ
byte_by side clear port at latch waiting = fold (byte_with side clear port at) latch waiting

-- the byte that a side finds at a port and a stamp, by what is kept of it
abbrev pub found_in : Side → SideValue → ℕ → ℕ → ℕ
found_in side kept port at =
    byte_by side (greatest_clear kept.cleared port) port at (slice_index kept.latches port) kept.waiting

-- the byte that a log answers to a side at a port and a stamp, where nothing is held back
abbrev pub answer : LogValue → Side → ℕ → ℕ → ℕ
answer log side port at = found_in side (kept_of side log) port at

-- the greatest stamp of a clear after one more
abbrev pub later : Option ℕ → ℕ → ℕ
later None at = at
later (Some before) at = max before at

-- the greatest clears of the ports from `port` on, after one more
abbrev pub cleared_after : List (Option ℕ) → ℕ → ℕ → ℕ → List (Option ℕ)
cleared_after [] port mask at = []
cleared_after (clear ∷ clears) port mask at =
    (if covers mask port then Some (later clear at) else clear)
    ∷ cleared_after clears (port + 1) mask at

-- the latches of the ports from `port` on, after a clear
abbrev pub latches_after : List ℕ → ℕ → ℕ → List ℕ
latches_after [] port mask = []
latches_after (latch ∷ latches) port mask =
    (if covers mask port then 0 else latch) ∷ latches_after latches (port + 1) mask

-- what is kept of a side after a clear of its own
abbrev pub after_clear : ℕ → ℕ → SideValue → SideValue
after_clear at mask kept = record kept {
  latches = latches_after kept.latches 0 mask;
  cleared = cleared_after kept.cleared 0 mask at;
}

-- the latches after a write has moved to the one of its port, unless a clear has zeroed it
abbrev pub latched : Side → List (Option ℕ) → List ℕ → Written → List ℕ
latched side cleared latches w =
    if is_zeroed side (greatest_clear cleared w.port) w.at then latches else slice_set latches w.port w.byte

-- the latches after the writes that the side sees at a clock have moved to them
abbrev pub latches_at : Side → ℕ → List (Option ℕ) → List ℕ → List Written → List ℕ
latches_at side clock cleared latches [] = latches
latches_at side clock cleared latches (w ∷ waiting) =
    if sees side w.at clock then latches_at side clock cleared (latched side cleared latches w) waiting else latches

-- the writes that still wait at a clock
abbrev pub waiting_at : Side → ℕ → List Written → List Written
waiting_at side clock [] = []
waiting_at side clock (w ∷ waiting) =
    if sees side w.at clock then waiting_at side clock waiting else w ∷ waiting

-- what is kept of a side after it has published a clock: what it sees then has moved to the latches
abbrev pub after_clock : Side → ℕ → SideValue → SideValue
after_clock side clock kept = record {
  clock = clock;
  waiting = waiting_at side clock kept.waiting;
  latches = latches_at side clock kept.cleared kept.latches kept.waiting;
  cleared = kept.cleared;
}

-- what is kept of a side after one more write of the other's: it moves to its latch at once where the
-- side's clock sees it, and waits otherwise
abbrev pub after_write : Side → Written → SideValue → SideValue
after_write side w kept = record kept {
  waiting = if sees side w.at kept.clock then kept.waiting else kept.waiting ++ w ∷ [];
  latches = if sees side w.at kept.clock then latched side kept.cleared kept.latches w else kept.latches;
}

-- the log with this kept of the side, and the same of the other
abbrev pub with_kept : Side → SideValue → LogValue → LogValue
with_kept Console kept log = record log { console = kept }
with_kept Sound kept log = record log { sound = kept }

-- the log after the side has published a clock
abbrev pub published : Side → ℕ → LogValue → LogValue
published side clock log = with_kept side (after_clock side clock (kept_of side log)) log

-- the log after one more clear of the side
abbrev pub with_clear : Side → ℕ → ℕ → LogValue → LogValue
with_clear side at mask log = with_kept side (after_clear at mask (kept_of side log)) log

-- the log after one more write of the side
abbrev pub with_write : Side → Written → LogValue → LogValue
with_write side w log =
    with_kept (other_side side) (after_write (other_side side) w (kept_of (other_side side) log)) log
