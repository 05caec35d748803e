-- What a seat of the table knows. This project's own profile.
use Rattle.std.specs.Prelude.{ℕ, ◌+◌, List, [], Option, None, Some, unwrap_or}
use Rattle.snes_defs.specs.declared.region.Region.{Region}
use Rattle.snes_defs.specs.declared.region.Region.TheVariants.{Ntsc}
use Rattle.snes_defs.specs.declared.ports.Side.{Side}
use Rattle.snes_defs.specs.declared.ports.Side.TheVariants.{Console, Sound}
use Rattle.port_entries.specs.Entry.{Entry}
use Rattle.word_log.specs.Sums.{count_of, or_else}

-- what is known of one side
pub record Half : Type 0 where
  -- the entries that it logged, in order
  pub mine : List Entry
  -- the clock that it has published
  pub at : ℕ
  -- the writes of the other side that it has taken, in order
  pub heard : List Entry
  -- it has taken all of them that are stamped before
  pub upto : ℕ
  -- the latest clock of the other side that it was told
  pub other : ℕ
  -- how many of the other side's writes it may take
  pub may : ℕ
  -- the write that stands in its entry word and is not counted yet
  pub coming : Option Entry

-- the view of a seat: a half of each side that it stands for, and how often it was told a clock
pub record Known : Type 0 where
  pub region : Region
  pub console : Option Half
  pub sound : Option Half
  pub told : ℕ

-- both sides' halves
pub record Halves : Type 0 where
  pub console : Half
  pub sound : Half

abbrev pub half_of : Side → Halves → Half
half_of Console b = b.console
half_of Sound b = b.sound

abbrev pub with_half : Side → Half → Halves → Halves
with_half Console h b = record b { console = h }
with_half Sound h b = record b { sound = h }

-- nothing is known of a side
abbrev pub no_half : Half
no_half = record { mine = []; at = 0; heard = []; upto = 0; other = 0; may = 0; coming = None }

abbrev pub half_option : Side → Known → Option Half
half_option Console v = v.console
half_option Sound v = v.sound

-- what a view knows of a side
abbrev pub half_in : Side → Known → Half
half_in side v = unwrap_or (half_option side v) no_half

-- whether a view has a side's half, as a number
abbrev pub has : Side → Known → ℕ
has side v = count_of (half_option side v)

-- a view with another half of a side
abbrev pub changed : Side → Half → Known → Known
changed Console h v = record v { console = Some h }
changed Sound h v = record v { sound = Some h }

-- a view that was told a clock once more
abbrev pub told_once : Known → Known
told_once v = record v { told = v.told + 1 }

-- a seat that knows nothing
abbrev pub spent : Known
spent = record { region = Ntsc; console = None; sound = None; told = 0 }

-- the view of the first seat
abbrev pub first_view : Region → Known
first_view region = record { region = region; console = Some no_half; sound = Some no_half; told = 0 }

-- a whole view is cut by sides, and two views are made one
abbrev pub console_half : Known → Known
console_half v = record v { sound = None }

abbrev pub sound_half : Known → Known
sound_half v = record { region = v.region; console = None; sound = v.sound; told = 0 }

abbrev pub joined : Known → Known → Known
joined v w = record {
  region = v.region;
  console = or_else v.console w.console;
  sound = or_else v.sound w.sound;
  told = v.told;
}
