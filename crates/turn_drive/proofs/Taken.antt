-- Bytes of one side that a sink took, before it took, or failed to take, some of the other.
use Rattle.std.proofs.Common.{ℕ, List, ◌++◌, length, sym, subst, arith}
use Rattle.std.proofs.lemmas.List.{take_all}
use Rattle.run_drive.specs.Run.{Adds, AddsSome}

-- all bytes were taken, and are held still
pub all_is_some : (before mid after : List ℕ → Type 0) (bytes : List ℕ) → Adds before mid bytes
    → ((had : List ℕ) → mid had → after had) → AddsSome before after bytes
all_is_some before mid after bytes adds still = λ had held. (
  length bytes,
  subst (λ l. after (had ++ l)) (sym (take_all (length bytes) bytes (omega arith))) (still (had ++ bytes) (adds had held)),
)
