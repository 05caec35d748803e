-- How many bytes of audio the cycles of a sound side emit: four at the end of every 32nd.
use Rattle.std.proofs.Common.{◌≡◌, ℕ, ◌+◌, ◌*◌, ◌/◌, ◌<◌, ◌≤◌, Bool, true, false, [], length, refl, arith, if◌then◌else◌}
use Rattle.std.proofs.lemmas.Bool.Decides.{nat_tests}
use Rattle.snes_defs.specs.declared.region.Region.{Region}
use Rattle.snes_defs.specs.declared.region.Region.TheVariants.{Ntsc, Pal}
use Rattle.snes_defs.specs.declared.ports.Side.TheVariants.{Sound}
use Rattle.clock_ratio.specs.Stamp.{rate_of, end_stamp_of, samples_before_of}
use Rattle.audio_side.specs.HardwareState.{HardwareState}
use Rattle.audio_side.specs.Effect.{emitted, is_sampling, sample_bytes, timed}

-- one where a cycle ends a sample
abbrev pub one_at : ℕ → ℕ
one_at cycle = if is_sampling cycle then 1 else 0

sample_size : (s : ℕ) (b : HardwareState) → length (sample_bytes s b) ≡ 4
unfolding sample_bytes
sample_size s b = refl

pub emitted_size : (cycle : ℕ) (b : HardwareState) → length (emitted cycle b) ≡ 4 * one_at cycle
unfolding emitted
emitted_size cycle b = go (is_sampling cycle)
  where
    go : (t : Bool) → length (if t then sample_bytes (cycle / 32) (timed cycle b) else []) ≡ 4 * (if t then 1 else 0)
    go true = sample_size (cycle / 32) (timed cycle b)
    go false = refl

pub samples_so : (cycle : ℕ) → (cycle + 1) / 32 ≡ cycle / 32 + one_at cycle
samples_so cycle = grind (arith, nat_tests)

-- the cycles before the end of a run are those whose stamps lie before it
pub samples_at_end : (region : Region) (frames cycle : ℕ) → end_stamp_of region frames ≤ rate_of region Sound * cycle
    → rate_of region Sound * cycle < end_stamp_of region frames + rate_of region Sound
    → cycle / 32 ≡ samples_before_of region (end_stamp_of region frames)
samples_at_end Ntsc frames cycle past near = omega (arith, past, near)
samples_at_end Pal frames cycle past near = omega (arith, past, near)

-- a frame has at most 640 samples
pub few_samples : (region : Region) (frames : ℕ) → samples_before_of region (end_stamp_of region (frames + 1)) ≤ samples_before_of region (end_stamp_of region frames) + 640
few_samples Ntsc frames = omega arith
few_samples Pal frames = omega arith
