-- The run of one machine by itself, against a fixed list of the other side's entries.
use Rattle.std.specs.Prelude.{◌≡◌, ℕ, zero, suc, ◌≤◌, List, ◌++◌, ◌<◌}
use Rattle.std.specs.List.{AllByRecursion}
use Rattle.snes_defs.specs.declared.ports.Side.{Side}
use Rattle.snes_defs.specs.declared.ports.Act.{Act}
use Rattle.snes_defs.specs.declared.ports.Act.TheVariants.{Quiet, Read, Write, Clear}
use Rattle.port_entries.specs.Entry.{Entry, entry_stamp, CarryBytes}
use Rattle.port_entries.specs.LastValue.{last_value}
use Rattle.port_entries.specs.Window.{IsSettled}
use Rattle.side_law.specs.Moves.{Moves}
use Rattle.commute_laws.specs.History.{History, history_after}

-- what a step gets: a read gets the last value over the side's own entries and the list
abbrev pub heard_got : Side → List Entry → List Entry → ℕ → Act → ℕ
heard_got side own others at (Read port) = last_value side own port at others
heard_got side own others at Quiet = 0
heard_got side own others at (Write port byte) = 0
heard_got side own others at (Clear mask) = 0

-- a fact that is asked where the act looks at the incoming ports
abbrev pub OnLook : Act → Type 0 → Type 0
OnLook (Read port) P = P
OnLook (Clear mask) P = P
OnLook Quiet P = Unit {0}
OnLook (Write port byte) P = Unit {0}

-- all of the list that is stamped before `upto` is in its beginning `heard`
pub record IsHeard (heard whole : List Entry) (upto : ℕ) : Type 0 where
  pub rest : List Entry
  pub whole_is : heard ++ rest ≡ whole
  pub later : AllByRecursion (λ e. upto ≤ entry_stamp e) rest

module _ {State : Type 0} (side : Side) (moves : Moves State) (others : List Entry) where
  -- one step against the list
  abbrev pub heard_step : History State → History State
  heard_step h =
      history_after moves h (heard_got side h.entries others (moves.stamp h.now) (moves.act h.now))

  -- so many steps against the list
  abbrev pub after_heard : ℕ → History State → History State
  after_heard zero h = h
  after_heard (suc k) h = after_heard k (heard_step h)

  -- each read and each clear among so many steps is at a stamp that is settled at `upto`
  abbrev pub LooksSettled : ℕ → ℕ → History State → Type 0
  LooksSettled upto zero h = Unit {0}
  LooksSettled upto (suc k) h =
      OnLook (moves.act h.now) (IsSettled side (moves.stamp h.now) upto)
      × LooksSettled upto k (heard_step h)

module _ {State : Type 0} (side : Side) (moves : Moves State) (others : List Entry) where
  -- each of so many steps against the list is made at a stamp below `end`
  abbrev pub StepsBelow : ℕ → ℕ → History State → Type 0
  StepsBelow end zero h = Unit {0}
  StepsBelow end (suc k) h =
      (moves.stamp h.now < end) × StepsBelow end k (heard_step side moves others h)

-- a side came from one history to another by steps against the list `heard`, at which it looked at
-- no stamp that isn't settled at `upto`
pub record HeardRun {State : Type 0} (side : Side) (moves : Moves State) (heard : List Entry) (upto : ℕ) (before after : History State) : Type 0 where
  pub steps : ℕ
  pub after_is : after_heard side moves heard steps before ≡ after
  pub settled : LooksSettled side moves heard upto steps before

-- a side ran by itself, while the other side's list came to be `others`, and its clock `clock`: what
-- it heard is a beginning of that list that has all up to a stamp which the other side has published
pub record RanAlone {State : Type 0} (side : Side) (moves : Moves State) (before after : History State) (others : List Entry) (clock : ℕ) : Type 0 where
  pub heard : List Entry
  pub upto : ℕ
  pub bytes : CarryBytes heard
  pub ran : HeardRun side moves heard upto before after
  pub all_heard : IsHeard heard others upto
  pub published : upto ≤ clock
