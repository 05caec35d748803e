-- A machine that is always quiet and emits rows of bytes: so many with a period between them, then a pause.
use Rattle.std.specs.Prelude.{◌≡◌, ℕ, ◌+◌, ◌-◌, ◌==◌, ◌≤◌, List, [], length, if◌then◌else◌}
use Rattle.snes_defs.specs.declared.ports.Act.TheVariants.{Quiet}
use Rattle.snes_defs.specs.declared.region.Region.{Region}
use Rattle.clock_ratio.specs.Stamp.{least_of, most_of}
use Rattle.side_law.specs.Moves.{Moves}
use Rattle.turn_rows.specs.declared.emitter.Rhythm.{Rhythm}

pub record EmitterState : Type 0 where
  pub region : Region
  pub rhythm : Rhythm
  pub row : List ℕ
  -- steps before the one that emits the next row
  pub left : ℕ
  -- rows before the pause
  pub rows : ℕ
  pub stamp : ℕ

-- steps before the one that emits the row after this one
abbrev pub wait_of : Rhythm → ℕ → ℕ
wait_of rhythm rows = if rows == 0 then rhythm.pause else rhythm.period

abbrev pub rows_after : Rhythm → ℕ → ℕ
rows_after rhythm rows = if rows == 0 then rhythm.rows else rows - 1

-- where it stands after a step
abbrev pub after_step : EmitterState → EmitterState
after_step t = record {
  region = t.region;
  rhythm = t.rhythm;
  row = t.row;
  left = if t.left == 0 then wait_of t.rhythm t.rows else t.left - 1;
  rows = if t.left == 0 then rows_after t.rhythm t.rows else t.rows;
  stamp = t.stamp + t.rhythm.rise;
}

abbrev pub emitted : EmitterState → List ℕ
emitted t = if t.left == 0 then t.row else []

abbrev pub emitter_moves : Moves EmitterState
emitter_moves = record {
  stamp = λ t. t.stamp;
  act = λ t. Quiet;
  next = λ t got. after_step t;
  bytes = λ t got. emitted t;
}

-- the rise of a region, and a row of so many bytes at most
pub record IsEmitter (most : ℕ) (region : Region) (t : EmitterState) : Type 0 where
  pub is : t.region ≡ region
  pub least : least_of region ≤ t.rhythm.rise
  pub most_rise : t.rhythm.rise ≤ most_of region
  pub short : length t.row ≤ most

-- what contracts see of an emitter
pub record EmitterValue : Type 0 where
  pub state : EmitterState
  pub waiting : List ℕ

abbrev pub StandsAt : ℕ → EmitterValue → EmitterState → Type 0
StandsAt most v t = (v.state ≡ t) × IsEmitter most t.region t
