-- What contracts see of a pass and of a whole. This project's own profile.
use Rattle.std.specs.Prelude.{◌≡◌, ℕ, ◌≤◌, List, [], ◌∷◌, ◌++◌}
use Rattle.std.specs.List.{AllByRecursion}
use Rattle.snes_defs.specs.declared.ports.Side.{Side}
use Rattle.snes_defs.specs.declared.ports.Side.TheVariants.{Console, Sound}
use Rattle.port_entries.specs.Entry.{Entry, WriteAt, ClearAt, entry_stamp, CarryBytes}
use Rattle.port_wire.specs.Tally.{Tally, no_tally}

-- what is seen of one side
pub record Half : Type 0 where
  -- the entries that it logged, in order
  pub mine : List Entry
  -- the clock that it has published
  pub at : ℕ
  -- what it has heard of the other side's entries, in order
  pub heard : List Entry
  -- it has heard all of them that are stamped before
  pub upto : ℕ
  -- the latest clock of the other side that it was told
  pub known : ℕ
  pub tally : Tally

-- what is seen of a pass
pub record Seen : Type 0 where
  pub side : Side
  pub half : Half

-- what is seen of a whole: both sides
pub record Both : Type 0 where
  pub console : Half
  pub sound : Half

abbrev pub half_of : Side → Both → Half
half_of Console b = b.console
half_of Sound b = b.sound

abbrev pub with_half : Side → Half → Both → Both
with_half Console h b = record b { console = h }
with_half Sound h b = record b { sound = h }

-- the half of a pass that has just been parted: its tally begins anew
abbrev pub parted : Half → Half
parted h = record h { tally = no_tally }

-- the writes of a list
abbrev pub writes_of : List Entry → List Entry
writes_of [] = []
writes_of (WriteAt at port byte ∷ es) = WriteAt at port byte ∷ writes_of es
writes_of (ClearAt at mask ∷ es) = writes_of es

-- what was heard of a list: the writes of a beginning that has all of the list stamped before `upto`
pub record HasHeard (heard whole : List Entry) (upto : ℕ) : Type 0 where
  pub front : List Entry
  pub rest : List Entry
  pub writes : writes_of heard ≡ writes_of front
  pub whole_is : front ++ rest ≡ whole
  pub later : AllByRecursion (λ e. upto ≤ entry_stamp e) rest

-- what holds of two halves that are reunited
pub record AreReunited (console sound : Half) : Type 0 where
  pub console_heard : HasHeard console.heard sound.mine console.upto
  pub sound_heard : HasHeard sound.heard console.mine sound.upto
  pub console_upto : console.upto ≤ sound.at
  pub sound_upto : sound.upto ≤ console.at
  pub console_bytes : CarryBytes console.mine
  pub sound_bytes : CarryBytes sound.mine
