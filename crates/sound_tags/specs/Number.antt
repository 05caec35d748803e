-- Numbers in decimal digits.
use Rattle.std.specs.Prelude.{ℕ, ◌+◌, ◌-◌, ◌*◌, ◌==◌, List, [], ◌∷◌, length, Option, Some, None, if◌then◌else◌}
use Rattle.std.specs.Char.{is_ascii_digit}

-- the number that these digits spell where `before` was read in front of them, or none where one of them is no digit
abbrev pub number_after : ℕ → List ℕ → Option ℕ
number_after before [] = Some before
number_after before (digit ∷ digits) =
    if is_ascii_digit digit then number_after (10 * before + (digit - 48)) digits else None

-- the number that these digits spell, of which there is at least one
abbrev pub spelled : List ℕ → Option ℕ
spelled digits = if length digits == 0 then None else number_after 0 digits
