-- Where the picture's beam is at a stamp: every frame has its region's lines, and every line 1,364 master clocks.
use Rattle.std.specs.Prelude.{ℕ, ◌/◌, ◌%◌}
use Rattle.snes_defs.specs.declared.region.Region.{Region}
use Rattle.snes_defs.specs.declared.region.Region.TheVariants.{Ntsc, Pal}
use Rattle.snes_defs.specs.declared.ports.Side.TheVariants.{Console}
use Rattle.clock_ratio.specs.Stamp.{rate_of}

-- the lines of a frame
abbrev pub lines_of : Region → ℕ
lines_of Ntsc = 262
lines_of Pal = 312

-- the master clocks before a stamp
abbrev pub clocks_before : Region → ℕ → ℕ
clocks_before region stamp = stamp / rate_of region Console

abbrev pub frame_at : Region → ℕ → ℕ
frame_at region stamp = clocks_before region stamp / 1364 / lines_of region

abbrev pub line_at : Region → ℕ → ℕ
line_at region stamp = clocks_before region stamp / 1364 % lines_of region

abbrev pub clock_at : Region → ℕ → ℕ
clock_at region stamp = clocks_before region stamp % 1364
