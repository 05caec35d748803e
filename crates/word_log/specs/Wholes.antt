-- What contracts see of a whole, which is both passes in one, and what a call over it does. This project's own profile.
use Rattle.std.specs.Prelude.{◌≡◌, ℕ, ◌+◌, ◌≤◌, List, [], ◌++◌, length}
use Rattle.atomic_table.specs.Table.{Me}
use Rattle.atomic_table.specs.Seated.{TableId}
use Rattle.snes_defs.specs.declared.ports.Side.{Side}
use Rattle.snes_defs.specs.declared.ports.Side.TheVariants.{Console, Sound}
use Rattle.port_entries.specs.Entry.{Entry}
use Rattle.port_log.specs.Kept.{other_side}
use Rattle.port_wire.specs.declared.counts.Counts.{Counts}
use Rattle.port_wire.specs.Seen.{Both, parted, writes_of}
use Rattle.port_wire.specs.Seen as seen
use Rattle.port_wire.specs.Tally.{no_tally}
use Rattle.word_log.specs.Known.{Known, half_in, has}
use Rattle.word_log.specs.WordsKnown.{WordsKnown}
use Rattle.word_log.specs.Desks.{IsReady}
use Rattle.word_log.specs.Passes.{PassValue, shown}
use Rattle.word_log.specs.declared.desk.Desk.{Desk}

-- a whole: what is seen of each side, and how often it was told a clock
pub record WholeValue : Type 0 where
  pub words : WordsKnown
  pub console : seen.Half
  pub sound : seen.Half
  pub told : ℕ

-- what is seen of a seat that stands for both sides
abbrev pub whole_of : TableId → Known → Counts → Counts → WholeValue
whole_of table v console sound = record {
  words = record { table = table; region = v.region };
  console = shown (half_in Console v) console;
  sound = shown (half_in Sound v) sound;
  told = v.told;
}

-- a seat that stands for both sides, and their desks
pub record StandForBoth (me : Me (Unit {0}) Known) (console sound : Desk) : Type 0 where
  pub no_slot : me.1 ≡ []
  pub has_console : has Console me.0 ≡ 1
  pub has_sound : has Sound me.0 ≡ 1
  pub console_ready : IsReady Console me.0.region (half_in Console me.0) console
  pub sound_ready : IsReady Sound me.0.region (half_in Sound me.0) sound

-- a side of which nothing was logged, heard or refused
abbrev pub new_half : seen.Half
new_half = record { mine = []; at = 0; heard = []; upto = 0; known = 0; tally = no_tally }

-- the whole of new words
abbrev pub new_whole : WordsKnown → WholeValue
new_whole words = record { words = words; console = new_half; sound = new_half; told = 0 }

-- the two passes of a whole: their tallies begin anew
abbrev pub console_pass : WholeValue → PassValue
console_pass w = record { words = w.words; side = Console; half = parted w.console; told = w.told }

abbrev pub sound_pass : WholeValue → PassValue
sound_pass w = record { words = w.words; side = Sound; half = parted w.sound; told = 0 }

-- of each side's writes at most so many are not heard by the other: fewer than a side has entry words
abbrev pub FewUnheard : seen.Half → seen.Half → Type 0
FewUnheard console sound =
    (length (writes_of sound.mine) ≤ length console.heard + 7282)
    × (length (writes_of console.mine) ≤ length sound.heard + 7282)

-- what two workers see of a whole
abbrev pub both_of : WholeValue → Both
both_of w = record { console = w.console; sound = w.sound }

-- the whole is that of these words
abbrev pub IsWholeOf : WordsKnown → WholeValue → Type 0
IsWholeOf words w = w.words ≡ words

-- what is seen of a side of a whole, and of the side across the ports
abbrev pub own_half : Side → WholeValue → seen.Half
own_half Console w = w.console
own_half Sound w = w.sound

abbrev pub other_half : Side → WholeValue → seen.Half
other_half side w = own_half (other_side side) w

-- a side after it logged some entries and published a clock, and has heard all that the other wrote
abbrev pub having_logged : List Entry → ℕ → seen.Half → seen.Half → seen.Half
having_logged es clock other h = record h {
  mine = h.mine ++ es;
  at = clock;
  heard = writes_of other.mine;
  upto = other.at;
  known = other.at;
}

-- a whole after a call of a side: the other side is as it was
abbrev pub whole_after : Side → List Entry → ℕ → WholeValue → WholeValue
whole_after Console es clock w = record w { console = having_logged es clock w.sound w.console; told = w.told + 1 }
whole_after Sound es clock w = record w { sound = having_logged es clock w.console w.sound; told = w.told + 1 }
