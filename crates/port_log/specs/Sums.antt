-- What the views of a table add up to.
use Rattle.std.specs.Prelude.{ℕ, ◌+◌, List, [], ◌∷◌, Option, Some, None}

abbrev pub total : {A : Type 0} → (A → ℕ) → List A → ℕ
total f [] = 0
total f (x ∷ xs) = f x + total f xs

-- whether there is one, as a number
abbrev pub count_of : {A : Type 0} → Option A → ℕ
count_of None = 0
count_of (Some x) = 1

-- the first that there is
abbrev pub or_else : {A : Type 0} → Option A → Option A → Option A
or_else None b = b
or_else (Some x) b = Some x
