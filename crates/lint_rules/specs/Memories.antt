-- Which bytes of a memory have been written: a mark for each. A byte that nothing has written counts once, at its first read, and is
-- marked then.
use Rattle.std.specs.Prelude.{ℕ, Bool, true, not, nat_lt, List, length, slice_index_or, slice_set, if◌then◌else◌}

-- the read of a byte of the memory that has no mark
abbrev pub is_first_read : List Bool → ℕ → Bool
is_first_read marks at = not (slice_index_or marks at true)

-- the marks after an access
abbrev pub marked : List Bool → ℕ → List Bool
marked marks at = if nat_lt at (length marks) then slice_set marks at true else marks
