-- What the trait of a shelf says: a shelf may tell a list of bytes, or tell nothing.
use Rattle.std.specs.Prelude.{◌≡◌, ℕ, ◌+◌, ◌^◌, ◌≤◌, List, ◌++◌, take, Option, IfSome}

-- what is told, if anything is, is exactly these bytes
abbrev pub Holds : Option (List ℕ) → List ℕ → Type 0
Holds told bytes = IfSome told (λ all. all ≡ bytes)

-- whatever was held before, it is now followed by these bytes
abbrev pub Appends : Option (List ℕ) → Option (List ℕ) → List ℕ → Type 0
Appends before after bytes = (had : List ℕ) → Holds before had → Holds after (had ++ bytes)

-- whatever was held before, it is now followed by the first of these bytes, all, some or none of them
abbrev pub AppendsSome : Option (List ℕ) → Option (List ℕ) → List ℕ → Type 0
AppendsSome before after bytes =
    (had : List ℕ) → Holds before had → (count : ℕ) × Holds after (had ++ take count bytes)

-- A count of faults rose from one moment to a later one: if it didn't grow, it stands at the end
-- of its 64 bits, where it could not.
abbrev pub HasRisen : ℕ → ℕ → Type 0
HasRisen before after = after ≤ before → 2 ^ 64 ≤ after + 1
