-- A tape: a machine that plays a list of beats, one a step, and is quiet after the last. This project's
-- own, for tests.
use Rattle.std.specs.Prelude.{◌≡◌, ℕ, ◌+◌, ◌≤◌, List, [], ◌∷◌}
use Rattle.std.specs.List.{AllByRecursion}
use Rattle.snes_defs.specs.declared.ports.Act.{Act}
use Rattle.snes_defs.specs.declared.ports.Act.TheVariants.{Quiet, Read, Write, Clear}
use Rattle.snes_defs.specs.declared.region.Region.{Region}
use Rattle.clock_ratio.specs.Stamp.{least_of, most_of}
use Rattle.side_law.specs.declared.beat.Beat.{Beat}
use Rattle.side_law.specs.Moves.{Moves, IsAtPorts}

-- the rise, port, byte and mask of a beat are in range
pub record IsBeat (region : Region) (b : Beat) : Type 0 where
  pub least : least_of region ≤ b.rise
  pub most : b.rise ≤ most_of region
  pub at_ports : IsAtPorts b.act

abbrev pub AreBeats : Region → List Beat → Type 0
AreBeats region beats = AllByRecursion (IsBeat region) beats

-- where a tape stands: its region, the beats to come, and the stamp of the next step
pub record TapeState : Type 0 where
  pub region : Region
  pub beats : List Beat
  pub stamp : ℕ

-- the beat that is played after the last
abbrev pub quiet_beat : Region → Beat
quiet_beat region = record { rise = least_of region; act = Quiet }

-- what the next step plays
abbrev pub first_beat : Region → List Beat → Beat
first_beat region [] = quiet_beat region
first_beat region (b ∷ bs) = b

abbrev pub later_beats : List Beat → List Beat
later_beats [] = []
later_beats (b ∷ bs) = bs

-- a read emits the byte that it got
abbrev pub echo : Act → ℕ → List ℕ
echo (Read port) got = got ∷ []
echo Quiet got = []
echo (Write port byte) got = []
echo (Clear mask) got = []

-- where it stands after a step
abbrev pub after_beat : TapeState → TapeState
after_beat t = record {
  region = t.region;
  beats = later_beats t.beats;
  stamp = t.stamp + (first_beat t.region t.beats).rise;
}

abbrev pub tape_moves : Moves TapeState
tape_moves = record {
  stamp = λ t. t.stamp;
  act = λ t. (first_beat t.region t.beats).act;
  next = λ t got. after_beat t;
  bytes = λ t got. echo (first_beat t.region t.beats).act got;
}

-- a tape of a region
abbrev pub IsTape : Region → TapeState → Type 0
IsTape region t = (t.region ≡ region) × AreBeats region t.beats

-- a tape that starts: nothing played, at stamp 0
abbrev pub tape_of : Region → List Beat → TapeState
tape_of region beats = record { region = region; beats = beats; stamp = 0 }

-- what contracts see of a tape: where it stands, and the bytes that wait in it
pub record TapeValue : Type 0 where
  pub state : TapeState
  pub waiting : List ℕ

abbrev pub StandsAt : TapeValue → TapeState → Type 0
StandsAt v t = (v.state ≡ t) × IsTape t.region t
