-- The clock of the sound side: the number of its cycle, and which cycles are resets. A frame is the region's (this project's own profile).
use Rattle.std.specs.Prelude.{ℕ, Bool, ◌+◌, ◌*◌, ◌/◌, ◌%◌, ◌&&◌, zero, suc, List, [], ◌∷◌, ◌++◌, nat_lt, if◌then◌else◌}
use Rattle.snes_defs.specs.declared.ports.Side.TheVariants.{Sound}
use Rattle.snes_defs.specs.declared.region.Region.{Region}
use Rattle.snes_defs.specs.Script.{is_reset}
use Rattle.clock_ratio.specs.Stamp.{rate_of, frame_of}

pub record Clock : Type 0 where
  pub region : Region
  -- the frames that begin with a press of the reset button, in order
  pub resets : List ℕ
  -- the number of the next cycle, from 0
  pub cycle : ℕ
  -- for how many resets there is memory. No step looks at it
  pub room : ℕ

-- the stamp of the next cycle
abbrev pub stamp_now : Clock → ℕ
stamp_now c = rate_of c.region Sound * c.cycle

-- A RESET of frame f is the side's first step at a stamp not below the frame's first: that step's stamp lies in the frame, less than a cycle from its begin
abbrev pub is_reset_due : Clock → Bool
is_reset_due c =
    nat_lt (stamp_now c % frame_of c.region) (rate_of c.region Sound) && is_reset c.resets (stamp_now c / frame_of c.region)

-- one cycle further
abbrev pub gone_on : Clock → Clock
gone_on c = record c { cycle = c.cycle + 1 }

-- the frames below n that begin with a reset
unfoldable pub reset_frames : List ℕ → ℕ → List ℕ
reset_frames resets zero = []
reset_frames resets (suc n) = reset_frames resets n ++ (if is_reset resets n then n ∷ [] else [])

-- before the first cycle of a script in a region; a script's frames are 0 to 36,000
abbrev pub clock_at_start : Region → List ℕ → Clock
clock_at_start region' resets' = record { region = region'; resets = reset_frames resets' 36001; cycle = 0; room = 0 }
