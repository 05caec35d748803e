-- What two seats know, and what a call does to them. This project's own profile.
use Rattle.std.specs.Prelude.{◌≡◌, ◌+◌, [], ◌∷◌, Option, Some, None, unwrap_or, ℕ}
use Rattle.snes_defs.specs.declared.ports.Side.{Side}
use Rattle.snes_defs.specs.declared.ports.Side.TheVariants.{Console, Sound}
use Rattle.snes_defs.specs.declared.region.Region.{Region}
use Rattle.port_log.specs.Kept.{LogValue, other_side}
use Rattle.port_log.specs.Known.{Here, Half, Book, ListKnown}
use Rattle.port_log.specs.Sums.{count_of}
use Rattle.port_log.specs.LockRule.{side_number, part_in, holding, holding_as, missed_once, given_back}
use Rattle.port_log.specs.ListRule.{IsTrueTo, IsOrderly, told_by, book_in, without_book, clock_in}
use Rattle.port_log.specs.KeptBook.{StandsForBook}
use Rattle.port_log.specs.PortsKnown.{PortsKnown}
use Rattle.port_log.specs.declared.seats.Seats.{Seats}

-- the two seats are seats of these ports
pub record AreSeatsOf (ports : PortsKnown) (seats : Seats) : Type 0 where
  pub lock : seats.lock.table_id ≡ ports.lock
  pub list : seats.list.table_id ≡ ports.list
  pub names_list : seats.lock.me.0.list ≡ ports.list
  pub names_region : seats.lock.me.0.region ≡ ports.region

-- nothing is known of a side
abbrev pub no_half : Half
no_half = record { mine = []; at = 0; heard = []; upto = 0 }

abbrev pub half_option : Side → ListKnown → Option Half
half_option Console v = v.console
half_option Sound v = v.sound

-- what a view knows of a side
abbrev pub half_in : Side → ListKnown → Half
half_in side v = unwrap_or (half_option side v) no_half

-- the seats stand for a side, and neither the log nor the note is out with them
pub record AreIdle (side : Side) (seats : Seats) : Type 0 where
  pub here : part_in side seats.lock.me.0 ≡ Here
  pub other : holding (part_in (other_side side) seats.lock.me.0) ≡ 0
  pub no_slot : seats.lock.me.1 ≡ []
  pub no_list_slot : seats.list.me.1 ≡ []
  pub has_half : count_of (half_option side seats.list.me.0) ≡ 1
  pub no_book : seats.list.me.0.book ≡ None

-- a call found the other side's number in the turn word
pub record MissesOnce (side : Side) (before after : Seats) : Type 0 where
  pub lock : after.lock.me ≡ (missed_once before.lock.me.0, [])
  pub lock_table : after.lock.table_id ≡ before.lock.table_id
  pub list : after.list.me ≡ before.list.me
  pub list_table : after.list.table_id ≡ before.list.table_id
  pub not_both : part_in (other_side side) before.lock.me.0 ≡ Here → ⊥
  pub clocks : after.clocks ≡ before.clocks

-- a call has taken the log, and knows the book
pub record Enters (region : Region) (side : Side) (before after : Seats) (log : LogValue) : Type 0 where
  pub lock : after.lock.me ≡ (holding_as (side_number side) before.lock.me.0, (0, None) ∷ [])
  pub lock_table : after.lock.table_id ≡ before.lock.table_id
  pub list : after.list.me ≡ (record before.list.me.0 { book = Some (book_in after.list.me.0) }, [])
  pub list_table : after.list.table_id ≡ before.list.table_id
  pub known : IsTrueTo (book_in after.list.me.0) before.list.me.0
  pub orderly : IsOrderly (book_in after.list.me.0)
  pub stands : StandsForBook log (book_in after.list.me.0)
  pub of_region : log.region ≡ region

-- the log and the note are out with the seats, which hold the log
pub record AreOut (side : Side) (seats : Seats) : Type 0 where
  pub slot : seats.lock.me.1 ≡ (0, None) ∷ []
  pub holds : holding seats.lock.me.0.console + holding seats.lock.me.0.sound ≡ 1
  pub no_list_slot : seats.list.me.1 ≡ []
  pub has_half : count_of (half_option side seats.list.me.0) ≡ 1
  pub book : seats.list.me.0.book ≡ Some (book_in seats.list.me.0)

-- a call has given the log back, and the seats know what the book says
pub record Leaves (side : Side) (clock : ℕ) (before after : Seats) (b : Book) : Type 0 where
  pub lock : after.lock.me ≡ (given_back before.lock.me.0, [])
  pub lock_table : after.lock.table_id ≡ before.lock.table_id
  pub list : after.list.me ≡ (without_book (told_by b before.list.me.0), [])
  pub list_table : after.list.table_id ≡ before.list.table_id
  pub own : after.clocks.own ≡ clock
  pub known : after.clocks.known ≡ clock_in (other_side side) b
