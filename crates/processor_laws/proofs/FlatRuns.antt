use Rattle.std.proofs.Common.{◌≡◌, ℕ, ◌+◌, List, refl, ap, subst, add-one}
use Rattle.processor_laws.specs.Flat.{Flat, run}

module _ {P State : Type 0} (stands : P → State → Type 0) (after : Flat State → Flat State) where
  -- a processor and a memory are what the model says
  pub record Matches (processor : P) (bytes : List ℕ) (f : Flat State) : Type 0 where
    pub state : stands processor f.processor
    pub same : bytes ≡ f.bytes

  pub matches_at_first : (processor : P) (bytes : List ℕ) (s : State) → stands processor s → Matches processor bytes (run after 0 (record { processor = s; bytes = bytes }))
  unfolding run
  matches_at_first processor bytes s h = record { state = h; same = refl }

  -- one access more
  pub matches_after_step : (n : ℕ) (processor new : P) (bytes more : List ℕ) (f : Flat State) → Matches processor bytes (run after n f)
      → ((s : State) → stands processor s → stands new (after (record { processor = s; bytes = bytes })).processor)
      → ((s : State) → stands processor s → more ≡ (after (record { processor = s; bytes = bytes })).bytes)
      → Matches new more (run after (n + 1) f)
  unfolding run
  matches_after_step n processor new bytes more f a state same =
      let at : record { processor = (run after n f).processor; bytes = bytes } ≡ run after n f = ap (λ (b : List ℕ). record (run after n f) { bytes = b }) a.same in
      rw add-one (record {
        state = subst (λ (g : Flat State). stands new (after g).processor) at (state (run after n f).processor a.state);
        same = subst (λ (g : Flat State). more ≡ (after g).bytes) at (same (run after n f).processor a.state);
      })
