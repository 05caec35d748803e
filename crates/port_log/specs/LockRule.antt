-- The rule of the lock table, and what its steps do to a view. This project's own profile.
use Rattle.std.specs.Prelude.{◌≡◌, ℕ, ◌+◌, ◌*◌, ◌≤◌, ◌==◌, [], ◌∷◌, Option, Some, length, slice_index, if◌then◌else◌}
use mathlib.Core.Option.{some}
use lib.ListN.{get_elem?}
use Rattle.atomic_table.specs.Table.{State, Me}
use Rattle.atomic_table.specs.Seated.{TableId}
use Rattle.snes_defs.specs.declared.ports.Side.{Side}
use Rattle.snes_defs.specs.declared.ports.Side.TheVariants.{Console, Sound}
use Rattle.snes_defs.specs.declared.region.Region.{Region}
use Rattle.port_log.specs.Known.{Part, Away, Here, Holds, LockKnown, KeptValue}
use Rattle.port_log.specs.Sums.{total}

-- the number of a side in the turn word
abbrev pub side_number : Side → ℕ
side_number Console = 1
side_number Sound = 2

-- whether a seat stands for a side, and whether it holds the log as that side
abbrev pub has : Part → ℕ
has Away = 0
has Here = 1
has Holds = 1

abbrev pub holding : Part → ℕ
holding Away = 0
holding Here = 0
holding Holds = 1

abbrev pub part_in : Side → LockKnown → Part
part_in Console v = v.console
part_in Sound v = v.sound

-- the view of a seat that has taken the log as the side of a number
abbrev pub holding_as : ℕ → LockKnown → LockKnown
holding_as number v = record v {
  console = if number == 1 then Holds else v.console;
  sound = if number == 1 then v.sound else Holds;
}

-- and of one that found it taken
abbrev pub missed_once : LockKnown → LockKnown
missed_once v = record v { missed = v.missed + 1 }

abbrev pub let_go : Part → Part
let_go Away = Away
let_go Here = Here
let_go Holds = Here

-- the view of a seat that has given the log back
abbrev pub given_back : LockKnown → LockKnown
given_back v = record v { console = let_go v.console; sound = let_go v.sound }

-- the log in the slot is of the region, and its note is a seat of the list table
abbrev pub Fits : TableId → Region → KeptValue → Type 0
Fits list region kept = (kept.list ≡ list) × (kept.region ≡ region)

abbrev pub console_has : LockKnown → ℕ
console_has v = has v.console

abbrev pub sound_has : LockKnown → ℕ
sound_has v = has v.sound

abbrev pub console_holds : LockKnown → ℕ
console_holds v = holding v.console

abbrev pub sound_holds : LockKnown → ℕ
sound_holds v = holding v.sound

-- Each side stands in one view. The turn word is 0 where no view holds the log, and else the number of
-- the side as which one view holds it. Where it is 0 the log and the note are at home in the slot.
pub record LockHolds (list : TableId) (region : Region) (s : State (Option KeptValue) LockKnown) : Type 0 where
  pub wide : length s.words ≡ 1
  pub console : total console_has s.views ≡ 1
  pub sound : total sound_has s.views ≡ 1
  pub turn : slice_index s.words 0 ≡ total console_holds s.views + 2 * total sound_holds s.views
  pub single : total console_holds s.views + total sound_holds s.views ≤ 1
  pub home : slice_index s.words 0 ≡ 0
      → (kept : KeptValue) × (get_elem? s.homes 0 ≡ some (some (Some kept))) × Fits list region kept

-- What a seat knows after it tried to take the log: it has it where it found 0, and else it missed it.
-- It never finds its own number.
pub record Tries (number : ℕ) (v : LockKnown) (found : ℕ) (after : Me (Option KeptValue) LockKnown) : Type 0 where
  pub free : found ≡ 0
      → (kept : KeptValue) × (after ≡ (holding_as number v, (0, Some kept) ∷ [])) × Fits v.list v.region kept
  pub held : (found ≡ 0 → ⊥) → after ≡ (missed_once v, [])
  pub not_console : v.console ≡ Here → found ≡ 1 → ⊥
  pub not_sound : v.sound ≡ Here → found ≡ 2 → ⊥
  pub within : found ≤ 2

-- a seat of both sides is cut in two, and two are made one
abbrev pub console_part : LockKnown → LockKnown
console_part v = record v { sound = Away }

abbrev pub sound_part : LockKnown → LockKnown
sound_part v = record v { console = Away; missed = 0 }

abbrev pub part_or : Part → Part → Part
part_or Away p = p
part_or Here p = Here
part_or Holds p = Holds

abbrev pub both_parts : LockKnown → LockKnown → LockKnown
both_parts v w = record v { console = part_or v.console w.console; sound = part_or v.sound w.sound }
