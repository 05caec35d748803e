-- Words in pairs of an option and its value, and the numbers that words spell.
use Rattle.std.specs.Prelude.{ℕ, Bool, not, ◌&&◌, nat_le, nat_eq, if◌then◌else◌, List, [], ◌∷◌, length, slice_index, Option, Some, None}
use Rattle.std.specs.Str.{bytes_eq}
use Rattle.shelf.specs.declared.shelves.Input.{Input}
use Rattle.shelf.specs.declared.shelves.Out.{Out}
use Rattle.run_io.specs.Number.{number_of}
use Rattle.run_io.specs.Options.{input_option, output_option}

-- the word behind an option, in pairs; no bytes where the option is missing
abbrev pub word_behind : List (List ℕ) → List ℕ → List ℕ
word_behind [] option = []
word_behind (name ∷ []) option = []
word_behind (name ∷ (value ∷ rest)) option = if bytes_eq name option then value else word_behind rest option

-- a value has 1 to 4,096 bytes and doesn't begin with a dash
abbrev pub is_value : List ℕ → Bool
is_value word = nat_le 1 (length word) && (nat_le (length word) 4096 && not (nat_eq (slice_index word 0) 45))

-- the name that the words give an input, or an output
unfoldable pub input_name : List (List ℕ) → Input → List ℕ
input_name pairs input = word_behind pairs (input_option input)

unfoldable pub output_name : List (List ℕ) → Out → List ℕ
output_name pairs out = word_behind pairs (output_option out)

-- a number of so many decimal digits at most, and at most so large
abbrev pub number_up_to : ℕ → Option ℕ → Option ℕ
number_up_to most None = None
number_up_to most (Some n) = if nat_le n most then Some n else None

unfoldable pub number_in : ℕ → ℕ → List ℕ → Option ℕ
number_in digits most word =
    if nat_le 1 (length word) && nat_le (length word) digits then number_up_to most (number_of word) else None
