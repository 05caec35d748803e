-- What holds of the members of a list, in their order.
use Rattle.std.specs.Prelude.{◌≡◌, ◌⊎◌, List, [], ◌∷◌}

-- this holds of all of them
abbrev pub AllOf : {A : Type 0} → (A → Type 0) → List A → Type 0
AllOf Each [] = Unit {0}
AllOf Each (x ∷ xs) = Each x × AllOf Each xs

-- this holds of one of them, and that of all before it
abbrev pub FirstThat : {A : Type 0} → (Before This : A → Type 0) → List A → Type 0
FirstThat Before This [] = ⊥
FirstThat Before This (x ∷ xs) = This x ⊎ (Before x × FirstThat Before This xs)

-- it is one of them
abbrev pub IsOneOf : {A : Type 0} → List A → A → Type 0
IsOneOf xs one = FirstThat (λ x. Unit {0}) (λ x. x ≡ one) xs
