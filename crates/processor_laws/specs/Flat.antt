-- A processor over a memory and nothing else: so many accesses, one after the other.
use Rattle.std.specs.Prelude.{ℕ, zero, suc, List}

-- the state of a processor, and the bytes of a memory
pub record Flat (State : Type 0) : Type 0 where
  pub processor : State
  pub bytes : List ℕ

-- so many accesses, by what one makes
unfoldable pub run : {State : Type 0} → (Flat State → Flat State) → ℕ → Flat State → Flat State
run after zero f = f
run after (suc n) f = after (run after n f)
