-- The signed number that a number of a width stands for.
use Rattle.std.specs.Prelude.{ℕ, ℤ, pos, ◌-ℤ◌, ◌/◌, nat_lt, if◌then◌else◌}

abbrev pub signed : ℕ → ℕ → ℤ
signed size v = if nat_lt v (size / 2) then pos v else pos v -ℤ pos size
