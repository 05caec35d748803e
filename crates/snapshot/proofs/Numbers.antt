-- What a run of whole frames needs of a region's numbers. They are looked at here alone.
use Rattle.std.proofs.Common.{◌≡◌, ℕ, suc, ◌+◌, ◌*◌, ◌/◌, ◌^◌, ◌<◌, ◌≤◌, ◌==◌, lit<, arith, if◌then◌else◌}
use Rattle.std.proofs.lemmas.Bool.Decides.{nat_tests}
use Rattle.snes_defs.specs.declared.region.Region.{Region}
use Rattle.snes_defs.specs.declared.region.Region.TheVariants.{Ntsc, Pal}
use Rattle.snes_defs.specs.declared.ports.Side.TheVariants.{Console}
use Rattle.clock_ratio.specs.Stamp.{rate_of, frame_of, end_stamp_of}
use Rattle.beam.specs.Events.{lines_of}

-- the clocks of a frame, and where the clock stands, by the frame and the place of the beam
abbrev pub frame_clocks : Region → ℕ
frame_clocks region = 1364 * lines_of region

abbrev pub clock_at : Region → (frame v h : ℕ) → ℕ
clock_at region frame v h = frame_clocks region * frame + 1364 * v + h

-- the end of the longest run
abbrev pub longest : Region → ℕ
longest region = end_stamp_of region 36000

-- one clock on
pub timed_so : (region : Region) (frame v h frame' v' h' clock : ℕ) → clock ≡ clock_at region frame v h
    → v < lines_of region → h < 1364 → frame < 65535
    → h' ≡ (if h == 1363 then 0 else h + 1)
    → v' ≡ (if h == 1363 then (if v + 1 == lines_of region then 0 else v + 1) else v)
    → frame' ≡ (if h' == 0 then (if v' == 0 then frame + 1 else frame) else frame)
    → (clock + 1 ≡ clock_at region frame' v' h') × (v' < lines_of region) × (h' < 1364)
timed_so Ntsc frame v h frame' v' h' clock is line dot few dot_is line_is frame_is =
    (grind (arith, nat_tests), grind (arith, nat_tests), grind (arith, nat_tests))
timed_so Pal frame v h frame' v' h' clock is line dot few dot_is line_is frame_is =
    (grind (arith, nat_tests), grind (arith, nat_tests), grind (arith, nat_tests))

-- a frame that has begun with the last clock, or some clocks ago, is at its first dots
pub begun_so : (region : Region) (f frame v h frame' v' h' clock k : ℕ) → clock ≡ clock_at region frame v h
    → clock + 1 ≡ clock_at region frame' v' h' → v < lines_of region → h < 1364 → h' < 1364 → k < 40
    → frame < f → frame' ≡ f → (v' ≡ 0) × (h' + k < 1364)
begun_so Ntsc f frame v h frame' v' h' clock k was is line dot dot' few before now = (omega arith, omega arith)
begun_so Pal f frame v h frame' v' h' clock k was is line dot dot' few before now = (omega arith, omega arith)

pub begun_still : (region : Region) (f frame v h frame' v' h' clock k : ℕ) → clock ≡ clock_at region frame v h
    → clock + 1 ≡ clock_at region frame' v' h' → v ≡ 0 → h + suc k < 1364
    → frame ≡ f → frame' ≡ f → (v' ≡ 0) × (h' + k < 1364)
begun_still Ntsc f frame v h frame' v' h' clock k was is top dot before now = (omega arith, omega arith)
begun_still Pal f frame v h frame' v' h' clock k was is top dot before now = (omega arith, omega arith)

-- a frame has lines
pub some_lines : (region : Region) → 0 < lines_of region
some_lines Ntsc = lit< tt
some_lines Pal = lit< tt

-- frames are counted as long as the clock is not past the last
pub few_frames : (region : Region) (frame v h clock : ℕ) → clock ≡ clock_at region frame v h
    → clock < frame_clocks region * 65535 → frame < 65535
few_frames Ntsc frame v h clock is small = omega (arith, is, small)
few_frames Pal frame v h clock is small = omega (arith, is, small)

-- the clock of a console whose stamp is not past the longest run's
pub early_clock : (region : Region) (clock : ℕ) → rate_of region Console * clock < longest region
    → clock + 40 < frame_clocks region * 65535
early_clock Ntsc clock lt = omega (arith, lt)
early_clock Pal clock lt = omega (arith, lt)

-- frame f begins at its stamp: before it the frame is below f, and from it on at least f
pub frame_before : (region : Region) (f frame v h clock : ℕ) → clock ≡ clock_at region frame v h
    → rate_of region Console * clock < end_stamp_of region f → frame < f
frame_before Ntsc f frame v h clock is lt = omega (arith, is, lt)
frame_before Pal f frame v h clock is lt = omega (arith, is, lt)

pub frame_from : (region : Region) (f frame v h clock : ℕ) → clock ≡ clock_at region frame v h
    → v < lines_of region → h < 1364 → end_stamp_of region f ≤ rate_of region Console * clock → f ≤ frame
frame_from Ntsc f frame v h clock is line dot le = omega (arith, is, line, dot, le)
frame_from Pal f frame v h clock is line dot le = omega (arith, is, line, dot, le)

-- the end of a run that is not longer than the longest
pub ends_within : (region : Region) (f : ℕ) → f ≤ 36000 → end_stamp_of region f ≤ longest region
ends_within Ntsc f few = omega (arith, few)
ends_within Pal f few = omega (arith, few)

-- it is a stamp that a machine can have
pub ends_early : (region : Region) (f : ℕ) → f ≤ 36000 → end_stamp_of region f ≤ 2 ^ 62
ends_early Ntsc f few = omega (arith, few)
ends_early Pal f few = omega (arith, few)

-- more frames end later
pub ends_rise : (region : Region) (f g : ℕ) → f ≤ g → end_stamp_of region f ≤ end_stamp_of region g
ends_rise Ntsc f g le = omega (arith, le)
ends_rise Pal f g le = omega (arith, le)

-- a stamp before the begin of frame f lies in a frame before it
pub frame_below : (region : Region) (f stamp : ℕ) → stamp < end_stamp_of region f → stamp / frame_of region < f
frame_below Ntsc f stamp lt = omega (arith, lt)
frame_below Pal f stamp lt = omega (arith, lt)
