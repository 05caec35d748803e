-- What lies in the slot of the lock table: the log, and a note that is a seat of the list table and
-- knows the book. This project's own profile.
use Rattle.std.specs.Prelude.{◌≡◌, List, [], ◌∷◌, Some, None}
use Rattle.port_log.specs.Kept.{LogValue}
use Rattle.port_log.specs.Entries.{StandsFor}
use Rattle.port_log.specs.Known.{Book, ListKnown}
use Rattle.port_log.specs.ListRule.{no_book, book_in}

-- the view of a note
abbrev pub note_view : Book → ListKnown
note_view b = record { console = None; sound = None; book = Some b; told = 0 }

-- the book that a note knows
abbrev pub book_on : List ListKnown → Book
book_on [] = no_book
book_on (v ∷ vs) = book_in v

-- a log stands for the lists of a book, and its clocks are the book's
pub record StandsForBook (log : LogValue) (b : Book) : Type 0 where
  pub stands : StandsFor log b.entries
  pub console_clock : log.console.clock ≡ b.console_clock
  pub sound_clock : log.sound.clock ≡ b.sound_clock

-- a note beside a log
pub record IsNoted (log : LogValue) (views : List ListKnown) : Type 0 where
  pub noted : views ≡ note_view (book_on views) ∷ []
  pub stands : StandsForBook log (book_on views)
