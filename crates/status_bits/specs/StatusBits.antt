-- The bits of a status byte by their weights, for both processors.
use Rattle.std.specs.Prelude.{ℕ, Bool, ◌+◌, ◌-◌, ◌*◌, ◌/◌, ◌%◌, ◌==◌, ◌||◌, if◌then◌else◌}

-- the weights of the eight bits of a status byte
abbrev pub is_weight : ℕ → Bool
is_weight w = (w == 1) || (w == 2) || (w == 4) || (w == 8) || (w == 16) || (w == 32) || (w == 64) || (w == 128)

-- whether the bit of weight w is set
abbrev pub flag : ℕ → ℕ → Bool
flag status w = status / w % 2 == 1

-- the byte with the bit of weight w on or off, the others as they were
abbrev pub put : ℕ → ℕ → Bool → ℕ
put status w on = status - status / w % 2 * w + (if on then w else 0)
