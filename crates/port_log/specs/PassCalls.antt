-- What one call over two seats answers and tells. This project's own profile.
use Rattle.std.specs.Prelude.{◌≡◌, ℕ, List, [], ◌∷◌, Result, Ok, Err}
use Rattle.snes_defs.specs.declared.ports.Side.{Side}
use Rattle.port_entries.specs.Entry.{Entry}
use Rattle.port_entries.specs.Window.{IsSettled, IsWithinWindow}
use Rattle.port_log.specs.Kept.{other_side}
use Rattle.port_log.specs.Entries.{value_by}
use Rattle.port_log.specs.Refused.{IsBehind, IsAhead}
use Rattle.port_log.specs.Known.{Book}
use Rattle.port_log.specs.ListRule.{clock_in, IsTrueTo, IsOrderly, logged, told_by, without_book}
use Rattle.port_log.specs.declared.seats.Seats.{Seats}
use Rattle.port_wire.specs.declared.late.PassLate.{PassLate}
use Rattle.port_wire.specs.declared.late.PassLate.TheVariants.{Behind, Ahead, Held}

-- a call had the log: the seats know what the book says after it, and its answer is that of the log
-- call on the book as it found it
pub record IsTold (side : Side) (before after : Seats) (es : List Entry) (clock : ℕ) (Answers : Book → Type 0) : Type 0 where
  pub found : Book
  pub known : IsTrueTo found before.list.me.0
  pub orderly : IsOrderly found
  pub answers : Answers found
  pub list : after.list.me ≡ (without_book (told_by (logged side es clock found) before.list.me.0), [])
  pub lock : after.lock.me ≡ (before.lock.me.0, [])
  pub list_table : after.list.table_id ≡ before.list.table_id
  pub lock_table : after.lock.table_id ≡ before.lock.table_id
  pub own : after.clocks.own ≡ clock
  pub told : after.clocks.known ≡ clock_in (other_side side) found

-- a fact of each answer: that the other side had the log, or not
abbrev pub IfHeld : {A : Type 0} → Result A PassLate → (Side → Type 0) → Type 0
IfHeld (Ok x) P = Unit {0}
IfHeld (Err (Behind need other)) P = Unit {0}
IfHeld (Err (Ahead at other)) P = Unit {0}
IfHeld (Err (Held by)) P = P by

abbrev pub IfTold : {A : Type 0} → Result A PassLate → Type 0 → Type 0
IfTold (Ok x) P = P
IfTold (Err (Behind need other)) P = P
IfTold (Err (Ahead at other)) P = P
IfTold (Err (Held by)) P = Unit {0}

-- the answer of a read: refused exactly where the other side's clock is too early, and else the last value
abbrev pub ReadAnswers : Side → ℕ → ℕ → Result ℕ PassLate → Book → Type 0
ReadAnswers side at port (Ok byte) b =
    (byte ≡ value_by b.entries side port at) × IsSettled side at (clock_in (other_side side) b)
ReadAnswers side at port (Err (Behind need other)) b =
    (need ≡ at) × (other ≡ clock_in (other_side side) b) × IsBehind side at (clock_in (other_side side) b)
ReadAnswers side at port (Err (Ahead stamp other)) b = ⊥
ReadAnswers side at port (Err (Held by)) b = Unit {0}

-- the answer of a clear, refused where a read is
abbrev pub ClearAnswers : Side → ℕ → Result (Unit {0}) PassLate → Book → Type 0
ClearAnswers side at (Ok done) b = IsSettled side at (clock_in (other_side side) b)
ClearAnswers side at (Err (Behind need other)) b =
    (need ≡ at) × (other ≡ clock_in (other_side side) b) × IsBehind side at (clock_in (other_side side) b)
ClearAnswers side at (Err (Ahead stamp other)) b = ⊥
ClearAnswers side at (Err (Held by)) b = Unit {0}

-- the answer of a write: refused exactly where it lies past the window
abbrev pub WriteAnswers : ℕ → Side → ℕ → Result (Unit {0}) PassLate → Book → Type 0
WriteAnswers window side at (Ok done) b = IsWithinWindow window at (clock_in (other_side side) b)
WriteAnswers window side at (Err (Behind need other)) b = ⊥
WriteAnswers window side at (Err (Ahead stamp other)) b =
    (stamp ≡ at) × (other ≡ clock_in (other_side side) b) × IsAhead window at (clock_in (other_side side) b)
WriteAnswers window side at (Err (Held by)) b = Unit {0}

-- the answer of a clock: the other side's
abbrev pub AdvanceAnswers : Side → Result ℕ PassLate → Book → Type 0
AdvanceAnswers side (Ok other) b = other ≡ clock_in (other_side side) b
AdvanceAnswers side (Err (Behind need other)) b = ⊥
AdvanceAnswers side (Err (Ahead stamp other)) b = ⊥
AdvanceAnswers side (Err (Held by)) b = Unit {0}

-- what a call logs, and the clock that it leaves, where it may be refused
abbrev pub logged_by : {A E : Type 0} → Result A E → Entry → List Entry
logged_by (Ok x) e = e ∷ []
logged_by (Err late) e = []

abbrev pub clock_by : {A E : Type 0} → Result A E → ℕ → ℕ → ℕ
clock_by (Ok x) next at = next
clock_by (Err late) next at = at
