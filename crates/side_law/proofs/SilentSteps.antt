-- Quiet steps that emit nothing, one after another. They touch no port, so they need no byte and wait for no other side.
use Rattle.std.proofs.Common.{◌≡◌, ℕ, zero, suc, ◌<◌, [], refl, sym, subst}
use Rattle.snes_defs.specs.declared.ports.Act.TheVariants.{Quiet}
use Rattle.side_law.specs.Moves.{Moves}

module _ {State : Type 0} (moves : Moves State) (before : ℕ) where
  -- so many of them lead from a state to another, each begun before the stamp
  abbrev pub SilentSteps : ℕ → State → State → Type 0
  SilentSteps zero from to = from ≡ to
  SilentSteps (suc n) from to = (moves.act from ≡ Quiet) × (moves.stamp from < before)
      × (moves.bytes from 0 ≡ []) × SilentSteps n (moves.next from 0) to

  -- one step more
  pub silent_on : (n : ℕ) (from to : State) → SilentSteps n from to
      → moves.act to ≡ Quiet → moves.stamp to < before → moves.bytes to 0 ≡ []
      → SilentSteps (suc n) from (moves.next to 0)
  silent_on zero from to same quiet early none =
      subst (λ x. SilentSteps 1 x (moves.next to 0)) (sym same) (quiet, early, none, refl)
  silent_on (suc n) from to (first, short, nothing, rest) quiet early none =
      (first, short, nothing, silent_on n (moves.next from 0) to rest quiet early none)

  -- steps after steps
  pub silent_then : (n k : ℕ) (from mid to : State) → SilentSteps n from mid → SilentSteps k mid to
      → (m : ℕ) × SilentSteps m from to
  silent_then zero k from mid to same then = (k, subst (λ x. SilentSteps k x to) (sym same) then)
  silent_then (suc n) k from mid to (first, short, nothing, rest) then =
      let more = silent_then n k (moves.next from 0) mid to rest then in
      (suc more.0, (first, short, nothing, more.1))
