-- How many steps fit below an end stamp.
use Rattle.std.proofs.Common.{◌≡◌, ℕ, suc, ◌+◌, ◌*◌, ◌<◌, ◌≤◌, List, [], ◌∷◌, length, refl, ap, inl, inr, ⊎_elim, arith, length-append}
use Rattle.std.specs.Prelude.{◌⊎◌}
use Rattle.snes_defs.specs.declared.region.Region.{Region}
use Rattle.snes_defs.specs.declared.ports.Side.TheVariants.{Console, Sound}
use Rattle.clock_ratio.specs.Stamp.{rate_of, least_of, frame_of, end_stamp_of}
use Rattle.clock_ratio.proofs.Numbers.{numbers}
use Rattle.side_law.specs.Moves.{Moves, IsLawful}
use Rattle.run_laws.specs.TurnBound.{Made, By, AreBelow, steps_in, EachSteps, frame_turns, most_turns}
use Rattle.run_laws.proofs.Counts.{steps_fit, frame_fits}

made_by_console : List Made → ℕ
made_by_console [] = 0
made_by_console (By Console got ∷ rest) = suc (made_by_console rest)
made_by_console (By Sound got ∷ rest) = made_by_console rest

made_by_sound : List Made → ℕ
made_by_sound [] = 0
made_by_sound (By Console got ∷ rest) = made_by_sound rest
made_by_sound (By Sound got ∷ rest) = suc (made_by_sound rest)

all_made : (steps : List Made) → made_by_console steps + made_by_sound steps ≡ length steps
unfolding made_by_console made_by_sound
all_made [] = refl
all_made (By Console got ∷ rest) = omega (arith, all_made rest)
all_made (By Sound got ∷ rest) = omega (arith, all_made rest)

module _ {C S : Type 0} (region : Region) (console_valid : C → Type 0) (sound_valid : S → Type 0) (console_most sound_most : ℕ)
    (cm : Moves C) (sm : Moves S)
    (console_lawful : IsLawful region console_valid console_most cm) (sound_lawful : IsLawful region sound_valid sound_most sm) where
  console_fits : (end : ℕ) (steps : List Made) (c : C) (s : S) → console_valid c → AreBelow region cm sm end steps c s
      → (made_by_console steps ≡ 0) ⊎ (cm.stamp c + least_of region * made_by_console steps < end + least_of region)
  unfolding made_by_console
  console_fits end [] c s ok below = inl refl
  console_fits end (By Console got ∷ rest) c s ok below =
      let rises = console_lawful.rises c got ok below.1 in
      inr (⊎_elim (λ (e : made_by_console rest ≡ 0). let none : least_of region * made_by_console rest ≡ least_of region * 0 = ap (λ k. least_of region * k) e in omega (arith, below.0))
      (λ (lt : cm.stamp (cm.next c got) + least_of region * made_by_console rest < end + least_of region). omega arith)
      (console_fits end rest (cm.next c got) s (console_lawful.stays_valid c got ok below.1) below.2))
  console_fits end (By Sound got ∷ rest) c s ok below = console_fits end rest c (sm.next s got) ok below.3

  sound_fits : (end : ℕ) (steps : List Made) (c : C) (s : S) → AreBelow region cm sm end steps c s
      → (made_by_sound steps ≡ 0) ⊎ (sm.stamp s + rate_of region Sound * made_by_sound steps < end + rate_of region Sound)
  unfolding made_by_sound
  sound_fits end [] c s below = inl refl
  sound_fits end (By Console got ∷ rest) c s below = sound_fits end rest (cm.next c got) s below.2
  sound_fits end (By Sound got ∷ rest) c s below =
      inr (⊎_elim (λ (e : made_by_sound rest ≡ 0). let none : rate_of region Sound * made_by_sound rest ≡ rate_of region Sound * 0 = ap (λ k. rate_of region Sound * k) e in omega (arith, below.0))
      (λ (lt : sm.stamp (sm.next s got) + rate_of region Sound * made_by_sound rest < end + rate_of region Sound). omega (arith, below.2))
      (sound_fits end rest c (sm.next s got) below.3))

  turns_step : (turns : List (List Made)) → EachSteps turns → length turns ≤ length (steps_in turns)
  turns_step [] h = omega arith
  turns_step (turn ∷ turns) h = omega (arith, h.0, turns_step turns h.1, length-append turn (steps_in turns))

  pub at_most_turns : (frames : ℕ) (turns : List (List Made)) (c : C) (s : S)
      → console_valid c → cm.stamp c ≡ 0 → sm.stamp s ≡ 0
      → EachSteps turns → AreBelow region cm sm (end_stamp_of region frames) (steps_in turns) c s
      → length turns ≤ most_turns region frames
  at_most_turns frames turns c s ok c_first s_first each below =
      let steps = steps_in turns in
      let n = numbers region in
      let some : 1 ≤ rate_of region Sound = omega (arith, n.rises, n.cycle_low) in
      let by_console : least_of region * made_by_console steps < end_stamp_of region frames + least_of region =
      ⊎_elim (λ (e : made_by_console steps ≡ 0). let none : least_of region * made_by_console steps ≡ least_of region * 0 = ap (λ k. least_of region * k) e in omega (arith, n.rises))
      (λ lt. omega (arith, lt))
      (console_fits (end_stamp_of region frames) steps c s ok below) in
      let by_sound : rate_of region Sound * made_by_sound steps < end_stamp_of region frames + rate_of region Sound =
      ⊎_elim (λ (e : made_by_sound steps ≡ 0). let none : rate_of region Sound * made_by_sound steps ≡ rate_of region Sound * 0 = ap (λ k. rate_of region Sound * k) e in omega (arith, some))
      (λ lt. omega (arith, lt))
      (sound_fits (end_stamp_of region frames) steps c s below) in
      omega (
        arith,
        steps_fit (least_of region) (rate_of region Sound) (frame_of region) (frame_turns region) frames (made_by_console steps) (made_by_sound steps)
            n.rises some (frame_fits region) by_console by_sound,
        turns_step turns each,
        all_made steps,
      )
