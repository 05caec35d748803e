-- How far a side's clock may be published. This project's own profile.
use Rattle.std.specs.Prelude.{ℕ, ◌+◌, ◌≤◌}
use Rattle.snes_defs.specs.declared.region.Region.{Region}
use Rattle.clock_ratio.specs.Stamp.{most_of, window_of}
use Rattle.port_wire.specs.Seen.{Half}

-- a stamp that lies within the reach of a side: no further past the clock of the other side that it was told than
-- the window and one step, by which a machine that kept to the window may have left it
abbrev pub IsInReach : Region → ℕ → Half → Type 0
IsInReach region at half = at ≤ half.known + window_of region + most_of region
