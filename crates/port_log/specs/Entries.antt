-- The two whole lists of entries, and what it means that a log stands for them. This project's own profile.
use Rattle.std.specs.Prelude.{◌≡◌, ℕ, ◌<◌, ◌≤◌, List, [], ◌∷◌, ◌++◌}
use Rattle.std.specs.List.{AllByRecursion}
use Rattle.snes_defs.specs.declared.ports.Side.{Side}
use Rattle.snes_defs.specs.declared.ports.Side.TheVariants.{Console, Sound}
use Rattle.port_entries.specs.Entry.{Entry, WriteAt, ClearAt, CarryBytes}
use Rattle.port_entries.specs.LastValue.{last_value}
use Rattle.port_entries.specs.Window.{IsSettled}
use Rattle.port_log.specs.Kept.{LogValue, other_side, clock_of, other_clock, answer, with_clear}

-- all that the two sides wrote and cleared, in order
pub record Entries : Type 0 where
  pub console : List Entry
  pub sound : List Entry

-- nothing was written or cleared yet
abbrev pub no_entries : Entries
no_entries = record { console = []; sound = [] }

-- the entries that a side made
abbrev pub made_by : Side → Entries → List Entry
made_by Console entries = entries.console
made_by Sound entries = entries.sound

-- one more entry of a side
abbrev pub with_entry : Side → Entry → Entries → Entries
with_entry Console e entries = record entries { console = entries.console ++ e ∷ [] }
with_entry Sound e entries = record entries { sound = entries.sound ++ e ∷ [] }

-- what a side finds at one of its ports at a stamp, by all entries
abbrev pub value_by : Entries → Side → ℕ → ℕ → ℕ
value_by entries side port at =
    last_value side (made_by side entries) port at (made_by (other_side side) entries)

-- a write is later than a stamp
abbrev pub IsWrittenAfter : ℕ → Entry → Type 0
IsWrittenAfter at (WriteAt later port byte) = at < later
IsWrittenAfter at (ClearAt later mask) = Unit {0}

-- the stamps of the writes rise, and are below the clock
abbrev pub WritesRiseBelow : ℕ → List Entry → Type 0
WritesRiseBelow clock [] = Unit {0}
WritesRiseBelow clock (WriteAt at port byte ∷ es) =
    (at < clock) × AllByRecursion (IsWrittenAfter at) es × WritesRiseBelow clock es
WritesRiseBelow clock (ClearAt at mask ∷ es) = WritesRiseBelow clock es

-- where the entry is a clear, the other side's clock settles it
abbrev pub IsSettledClear : Side → ℕ → Entry → Type 0
IsSettledClear side other (WriteAt at port byte) = Unit {0}
IsSettledClear side other (ClearAt at mask) = IsSettled side at other

-- a log answers as the entries do at each stamp that a side may still ask for
abbrev pub AnswersBy : LogValue → ℕ → Side → Entries → Type 0
AnswersBy log clock side entries =
    (port at : ℕ) → port < 4 → clock ≤ at
    → answer log side port at ≡ value_by entries side port at

-- A log stands for these entries, whatever it keeps of them. The crates above use this as it is, and
-- never look into it: a log that keeps less can stand for the same entries.
pub record StandsFor (log : LogValue) (entries : Entries) : Type 0 where
  -- each side's writes have rising stamps below the clock that it has published
  pub rises : (side : Side) → WritesRiseBelow (clock_of side log) (made_by side entries)
  -- what it wrote are bytes
  pub bytes : (side : Side) → CarryBytes (made_by side entries)
  -- nothing that the other side still writes is zeroed by a clear of the side
  pub settled : (side : Side)
      → AllByRecursion (IsSettledClear side (other_clock side log)) (made_by side entries)
  -- the log answers as the entries do
  pub answers : (side : Side) → AnswersBy log (clock_of side log) side entries
  -- and so it does after one more clear, which may fall between two writes of one byte
  pub answers_after_clear : (side : Side) (clear_at mask : ℕ) → clock_of side log ≤ clear_at
      → AnswersBy (with_clear side clear_at mask log) (clock_of side log) side
      (with_entry side (ClearAt clear_at mask) entries)
