-- A first look at an object by its Y alone.
use Rattle.std.specs.Prelude.{ℕ, nat_lt, if◌then◌else◌}
use Rattle.ppu_objects.specs.Objects.{line_in}

-- 1 where an object with this Y may stand on a row, if none is taller than `tall`
unfoldable pub near_mark : ℕ → ℕ → ℕ → ℕ
near_mark tall row y = if nat_lt (line_in y row) tall then 1 else 0
