-- What contracts see of a pass, and what a call over it does beside its answer. This project's own profile.
use Rattle.std.specs.Prelude.{◌≡◌, ℕ, ◌+◌, [], None, Result, Ok, Err}
use Rattle.atomic_table.specs.Table.{Me}
use Rattle.atomic_table.specs.Seated.{TableId}
use Rattle.snes_defs.specs.declared.ports.Side.{Side}
use Rattle.port_log.specs.Kept.{other_side}
use Rattle.port_wire.specs.declared.late.PassLate.{PassLate}
use Rattle.port_wire.specs.declared.late.PassLate.TheVariants.{Behind, Ahead, Held}
use Rattle.port_wire.specs.declared.counts.Counts.{Counts}
use Rattle.port_wire.specs.Counts.{tally_of}
use Rattle.port_wire.specs.Seen.{Seen}
use Rattle.port_wire.specs.Seen as seen
use Rattle.word_log.specs.Known.{Half, Known, half_option, half_in, has}
use Rattle.word_log.specs.WordsKnown.{WordsKnown}
use Rattle.word_log.specs.Desks.{IsReady}
use Rattle.word_log.specs.declared.desk.Desk.{Desk}

-- a pass: its side, what is seen of that, and how often it was told a clock
pub record PassValue : Type 0 where
  pub words : WordsKnown
  pub side : Side
  pub half : seen.Half
  pub told : ℕ

-- what is seen of a side, by what its seat knows and its counts
abbrev pub shown : Half → Counts → seen.Half
shown h counts = record {
  mine = h.mine;
  at = h.at;
  heard = h.heard;
  upto = h.upto;
  known = h.other;
  tally = tally_of counts;
}

-- what is seen of a seat that stands for a side
abbrev pub pass_of : Side → TableId → Known → Counts → PassValue
pass_of side table v counts = record {
  words = record { table = table; region = v.region };
  side = side;
  half = shown (half_in side v) counts;
  told = v.told;
}

-- a seat that stands for one side alone, and its desk
pub record StandFor (side : Side) (me : Me (Unit {0}) Known) (desk : Desk) : Type 0 where
  pub no_slot : me.1 ≡ []
  pub half : has side me.0 ≡ 1
  pub no_other : half_option (other_side side) me.0 ≡ None
  pub ready : IsReady side me.0.region (half_in side me.0) desk

-- the pass was told the other side's clock once more, and has all of its writes that are stamped before
pub record WasTold (old new : PassValue) : Type 0 where
  pub told : new.told ≡ old.told + 1
  pub upto : new.half.upto ≡ new.half.known

-- no call is held by the other side
abbrev pub IsNeverHeld : {A : Type 0} → Result A PassLate → Type 0
IsNeverHeld (Ok x) = Unit {0}
IsNeverHeld (Err (Behind need other)) = Unit {0}
IsNeverHeld (Err (Ahead at other)) = Unit {0}
IsNeverHeld (Err (Held by)) = ⊥

-- what two workers see of a pass
abbrev pub seen_of : PassValue → Seen
seen_of p = record { side = p.side; half = p.half }

-- the pass is one of these words
abbrev pub IsPassOf : WordsKnown → PassValue → Type 0
IsPassOf words p = p.words ≡ words
