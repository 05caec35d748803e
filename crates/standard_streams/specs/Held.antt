-- What is known of the standard streams once they are held.
use Rattle.std.specs.Prelude.{ℤ, pos, ◌<ℤ◌, ◌≤ℤ◌, Option, IfSome}
use Rattle.std.specs.declared.fs.File.{File}
use Rattle.std.specs.Fd.{file_raw_fd}
use Rattle.standard_streams.specs.declared.HeldStreams.{HeldStreams}

-- a file that was opened has one of the numbers up to 2
abbrev pub IsLow : Option File → Type 0
IsLow file = IfSome file (λ f. file_raw_fd f ≤ℤ pos 2)

-- The files that are held: up to three that were given a number up to 2, and one that was given a number above it, where
-- the system opened that many. It gives the lowest number that is free, so none of the three was free then.
pub record AreHeld (held : HeldStreams) : Type 0 where
  pub first : IsLow held.first
  pub second : IsLow held.second
  pub third : IsLow held.third
  pub above : IfSome held.above (λ f. pos 2 <ℤ file_raw_fd f)
