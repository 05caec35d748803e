-- The bits of a byte, as the register pages name them.
use Rattle.std.specs.Prelude.{ℕ, Bool, ◌/◌, ◌%◌, ◌==◌}

-- whether the bit of this weight (1, 2, 4, .. 128) is set in v
unfoldable pub is_set : ℕ → ℕ → Bool
is_set v weight = v / weight % 2 == 1
