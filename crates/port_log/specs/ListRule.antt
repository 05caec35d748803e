-- The rule of the list table, and what its steps do to a view. This project's own profile.
use Rattle.std.specs.Prelude.{◌≡◌, ℕ, zero, suc, unwrap_or, ◌+◌, ◌%◌, ◌^◌, ◌≤◌, List, ◌++◌, Some, None, option_map, length, slice_index, IfSome}
use Rattle.std.specs.List.{AllByRecursion}
use lib.ListN.{get_elem?}
use mathlib.Core.Option.{some}
use Rattle.atomic_table.specs.Table.{State}
use Rattle.snes_defs.specs.declared.ports.Side.{Side}
use Rattle.snes_defs.specs.declared.ports.Side.TheVariants.{Console, Sound}
use Rattle.port_entries.specs.Entry.{Entry, entry_stamp, CarryBytes}
use Rattle.port_log.specs.Kept.{other_side}
use Rattle.port_log.specs.Entries.{no_entries, made_by, WritesRiseBelow}
use Rattle.port_log.specs.Known.{Half, Book, ListKnown}
use Rattle.port_log.specs.Sums.{total, count_of, or_else}

-- a side's whole list in the book, and the clock that it has published
abbrev pub list_in : Side → Book → List Entry
list_in side b = made_by side b.entries

abbrev pub clock_in : Side → Book → ℕ
clock_in Console b = b.console_clock
clock_in Sound b = b.sound_clock

-- all of the list that is stamped before `upto` is in its beginning `heard`
pub record IsHeard (heard whole : List Entry) (upto : ℕ) : Type 0 where
  pub rest : List Entry
  pub whole_is : heard ++ rest ≡ whole
  pub later : AllByRecursion (λ e. upto ≤ entry_stamp e) rest

-- what is known of a side is so by the book
pub record IsTrueHalf (side : Side) (b : Book) (h : Half) : Type 0 where
  pub mine : h.mine ≡ list_in side b
  pub at : h.at ≡ clock_in side b
  pub heard : IsHeard h.heard (list_in (other_side side) b) h.upto
  pub upto : h.upto ≤ clock_in (other_side side) b

-- what a view knows is so by the book
pub record IsTrueTo (b : Book) (v : ListKnown) : Type 0 where
  pub console : IfSome v.console (IsTrueHalf Console b)
  pub sound : IfSome v.sound (IsTrueHalf Sound b)
  pub book : IfSome v.book (λ c. c ≡ b)

-- the writes of each side have rising stamps below its clock, and write bytes
pub record IsOrderly (b : Book) : Type 0 where
  pub console : WritesRiseBelow b.console_clock b.entries.console
  pub sound : WritesRiseBelow b.sound_clock b.entries.sound
  pub console_bytes : CarryBytes b.entries.console
  pub sound_bytes : CarryBytes b.entries.sound

abbrev pub has_console : ListKnown → ℕ
has_console v = count_of v.console

abbrev pub has_sound : ListKnown → ℕ
has_sound v = count_of v.sound

abbrev pub has_book : ListKnown → ℕ
has_book v = count_of v.book

-- There is one book, which stands in one view, and each side's half in one view. The two words count
-- the entries of the sides' lists, and what each view knows is so by the book.
pub record ListHolds (s : State (Unit {0}) ListKnown) : Type 0 where
  pub kept : Book
  pub wide : length s.words ≡ 2
  pub console_count : slice_index s.words 0 ≡ length kept.entries.console % 2 ^ 64
  pub sound_count : slice_index s.words 1 ≡ length kept.entries.sound % 2 ^ 64
  pub console : total has_console s.views ≡ 1
  pub sound : total has_sound s.views ≡ 1
  pub book : total has_book s.views ≡ 1
  pub known : (j : ℕ) (v : ListKnown) → get_elem? s.views j ≡ some v → IsTrueTo kept v
  pub orderly : IsOrderly kept

-- the book after a side has logged some entries and published a clock
abbrev pub logged : Side → List Entry → ℕ → Book → Book
logged Console es clock b = record b {
  entries = record b.entries { console = b.entries.console ++ es };
  console_clock = clock;
}
logged Sound es clock b = record b {
  entries = record b.entries { sound = b.entries.sound ++ es };
  sound_clock = clock;
}

-- what the book says of a side: it has heard all of the other's list
abbrev pub half_by : Side → Book → Half
half_by side b = record {
  mine = list_in side b;
  at = clock_in side b;
  heard = list_in (other_side side) b;
  upto = clock_in (other_side side) b;
}

-- a view that has the book, and each half of which is told what it says
abbrev pub told_by : Book → ListKnown → ListKnown
told_by b v = record {
  console = option_map (λ _. half_by Console b) v.console;
  sound = option_map (λ _. half_by Sound b) v.sound;
  book = Some b;
  told = v.told + 1;
}

-- the side whose list a word counts
abbrev pub side_of : ℕ → Side
side_of zero = Console
side_of (suc n) = Sound

-- nothing was logged yet
abbrev pub no_book : Book
no_book = record { entries = no_entries; console_clock = 0; sound_clock = 0 }

-- the book of a view, if it has one
abbrev pub book_in : ListKnown → Book
book_in v = unwrap_or v.book no_book

-- a view goes without the book, which a note has; and a whole one is cut by sides
abbrev pub without_book : ListKnown → ListKnown
without_book v = record v { book = None }

abbrev pub note_of : ListKnown → ListKnown
note_of v = record { console = None; sound = None; book = v.book; told = 0 }

abbrev pub console_half : ListKnown → ListKnown
console_half v = record v { sound = None }

abbrev pub sound_half : ListKnown → ListKnown
sound_half v = record { console = None; sound = v.sound; book = None; told = 0 }

-- two views made one
abbrev pub joined : ListKnown → ListKnown → ListKnown
joined v w = record {
  console = or_else v.console w.console;
  sound = or_else v.sound w.sound;
  book = or_else v.book w.book;
  told = v.told;
}

-- the view of the first seat
abbrev pub first_view : ListKnown
first_view = record {
  console = Some (half_by Console no_book);
  sound = Some (half_by Sound no_book);
  book = Some no_book;
  told = 0;
}
