-- What a seat of each of the two tables knows. This project's own profile.
use Rattle.std.specs.Prelude.{ℕ, List, [], Option, None}
use Rattle.atomic_table.specs.Seated.{TableId}
use Rattle.snes_defs.specs.declared.region.Region.{Region}
use Rattle.snes_defs.specs.declared.region.Region.TheVariants.{Ntsc}
use Rattle.port_entries.specs.Entry.{Entry}
use Rattle.port_log.specs.Entries.{Entries}

-- whether a lock seat stands for a side, and whether it holds the log as that side
pub data Part : Type 0 where
  Away : Part
  Here : Part
  Holds : Part

-- the view of a seat of the lock table
pub record LockKnown : Type 0 where
  pub console : Part
  pub sound : Part
  -- how often it found the other side's number in the turn word
  pub missed : ℕ
  -- the list table, and the region of the log
  pub list : TableId
  pub region : Region

-- what is known of one side: what it logged and its clock, what it has heard of the other's list, and
-- the stamp up to which it has heard all
pub record Half : Type 0 where
  pub mine : List Entry
  pub at : ℕ
  pub heard : List Entry
  pub upto : ℕ

-- the book: both sides' whole lists of entries, and the clocks that they have published
pub record Book : Type 0 where
  pub entries : Entries
  pub console_clock : ℕ
  pub sound_clock : ℕ

-- the view of a seat of the list table
pub record ListKnown : Type 0 where
  pub console : Option Half
  pub sound : Option Half
  pub book : Option Book
  -- how often it told the book of a call
  pub told : ℕ

-- a seat that knows nothing
abbrev pub no_table : TableId
no_table = record { words = 0; slots = 0; views_name = 0; atom = 0; block = 0; offset = 0; slot_names = [] }

abbrev pub spent_lock : LockKnown
spent_lock = record { console = Away; sound = Away; missed = 0; list = no_table; region = Ntsc }

abbrev pub spent_list : ListKnown
spent_list = record { console = None; sound = None; book = None; told = 0 }

-- what the slot keeps, as contracts see it: the book, the list table that the note is a seat of, and the log's region
pub record KeptValue : Type 0 where
  pub book : Book
  pub list : TableId
  pub region : Region
