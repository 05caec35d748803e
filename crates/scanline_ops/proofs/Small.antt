-- Full brightness leaves a colour of 15 bits as it is.
use Rattle.std.proofs.Common.{◌≡◌, ℕ, ◌<◌, arith}
use Rattle.scanline_ops.specs.Colours.{dimmed}

pub full_stays : (brightness colour : ℕ) → brightness ≡ 15 → colour < 32768 → colour ≡ dimmed brightness colour
unfolding dimmed
full_stays brightness colour full small = rw full (omega (arith, small))

pub ruleset full = full_stays
