-- Stamps: one time line for the clocks of both sides, in each region, and the numbers of a step, a
-- frame and the window on it. The clock rates are those of nocash fullsnes, 236,250,000/11 Hz (Ntsc) and
-- 21,281,370 Hz (Pal, nominal) for the console and 1,024,000 Hz for the sound side, multiplied across;
-- the window is this project's own.
use Rattle.std.specs.Prelude.{ℕ, ◌+◌, ◌-◌, ◌*◌, ◌/◌, ◌^◌}
use Rattle.snes_defs.specs.declared.region.Region.{Region}
use Rattle.snes_defs.specs.declared.region.Region.TheVariants.{Ntsc, Pal}
use Rattle.snes_defs.specs.declared.ports.Side.{Side}
use Rattle.snes_defs.specs.declared.ports.Side.TheVariants.{Console, Sound}

-- the stamps of one master clock, and of one cycle of the sound side
abbrev pub rate_of : Region → Side → ℕ
rate_of Ntsc Console = 5632
rate_of Ntsc Sound = 118125
rate_of Pal Console = 102400
rate_of Pal Sound = 2128137

-- the moment at which a side's clock stands at so many clocks
abbrev pub stamp_of : Region → Side → ℕ → ℕ
stamp_of region side clocks = rate_of region side * clocks

-- the most clocks of a side whose stamp is asked for
abbrev pub most_clocks : Region → Side → ℕ
most_clocks Ntsc Console = 2 ^ 50
most_clocks Ntsc Sound = 2 ^ 46
most_clocks Pal Console = 2 ^ 46
most_clocks Pal Sound = 2 ^ 41

-- the stamps of a frame: 262 lines of 1364 master clocks, or 312
abbrev pub frame_of : Region → ℕ
frame_of Ntsc = 2012696576
frame_of Pal = 43578163200

-- the end of a run of so many frames
abbrev pub end_stamp_of : Region → ℕ → ℕ
end_stamp_of region frames = frame_of region * frames

-- by how much one step raises a machine's stamp: at least by 6 master clocks, at most by 40
abbrev pub least_of : Region → ℕ
least_of Ntsc = 33792
least_of Pal = 614400

abbrev pub most_of : Region → ℕ
most_of Ntsc = 225280
most_of Pal = 4096000

-- how far one side may run ahead of the other's published clock: 16 lines
abbrev pub window_of : Region → ℕ
window_of Ntsc = 122912768
window_of Pal = 2234777600

-- the stamp of the step that emits sample k, which is that of cycle 32 * k + 31
abbrev pub sample_stamp : Region → ℕ → ℕ
sample_stamp region k = stamp_of region Sound (32 * k + 31)

-- how many samples are emitted before a stamp
abbrev pub samples_before_of : Region → ℕ → ℕ
samples_before_of region end = (end + (rate_of region Sound - 1)) / (32 * rate_of region Sound)
