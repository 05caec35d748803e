-- Whether a row is drawn in the next clocks, by the line clock.
use Rattle.std.specs.Prelude.{ℕ, ◌+◌, ◌&&◌, ◌||◌, nat_lt, nat_le, if◌then◌else◌}

-- the bytes of the rows drawn at 1096 in so many clocks, fewer than a line, after the line clock h
unfoldable pub room_for : ℕ → ℕ → ℕ
room_for h clocks =
    if (nat_lt h 1096 && nat_le 1096 (h + clocks)) || nat_le 2460 (h + clocks) then 1024 else 0
