-- What the laws of two machines need of a region's numbers: the one place where they are looked at.
use Rattle.std.proofs.Common.{◌*◌, ◌<◌, ◌≤◌, lit<, lit≤}
use Rattle.snes_defs.specs.declared.region.Region.{Region}
use Rattle.snes_defs.specs.declared.region.Region.TheVariants.{Ntsc, Pal}
use Rattle.snes_defs.specs.declared.ports.Side.TheVariants.{Sound}
use Rattle.clock_ratio.specs.Stamp.{rate_of, least_of, most_of, window_of}

pub record Numbers (region : Region) : Type 0 where
  -- a step rises
  pub rises : 1 ≤ least_of region
  -- the longest step is less than seven of the shortest
  pub few : most_of region ≤ 7 * least_of region
  -- a sound cycle is a step
  pub cycle_low : least_of region ≤ rate_of region Sound
  pub cycle_high : rate_of region Sound ≤ most_of region
  -- the window holds the writes of 3,638 steps, and no more
  pub window : 3637 * least_of region ≤ window_of region
  pub window_ends : window_of region < 3638 * least_of region

pub numbers : (region : Region) → Numbers region
numbers Ntsc = record { rises = lit≤ tt; few = lit≤ tt; cycle_low = lit≤ tt; cycle_high = lit≤ tt; window = lit≤ tt; window_ends = lit< tt }
numbers Pal = record { rises = lit≤ tt; few = lit≤ tt; cycle_low = lit≤ tt; cycle_high = lit≤ tt; window = lit≤ tt; window_ends = lit< tt }
