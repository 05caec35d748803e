-- How many steps a pair on the serial run has made below an end stamp.
use Rattle.std.proofs.Common.{◌≡◌, ℕ, zero, suc, ◌+◌, ◌*◌, ◌<◌, ◌≤◌, refl, sym, subst, ⊎_elim, arith}
use Rattle.std.specs.Prelude.{◌⊎◌}
use Rattle.std.proofs.lemmas.Bool.{cases_lt}
use Rattle.snes_defs.specs.declared.region.Region.{Region}
use Rattle.clock_ratio.proofs.Numbers.{numbers}
use Rattle.side_law.specs.Moves.{Moves, IsLawful}
use Rattle.side_law.specs.Serial.{serial_of}
use Rattle.side_law.specs.SerialRun.{RunsFor}
use Rattle.commute_laws.specs.History.{History}
use Rattle.commute_laws.specs.OnRun.{serial_run, IsOnRun, StaysBelow}
use Rattle.commute_laws.proofs.Later.{Advances}
use Rattle.commute_laws.proofs.OnRuns.{console_each, sound_each}
use Rattle.commute_laws.proofs.ToTheEnd.{of_run}

-- along a sequence in which at each place one step is made or nothing is
module _ {State : Type 0} (region : Region) (moves : Moves State) (z : ℕ → History State)
    (each : (n : ℕ) → (z (suc n) ≡ z n) ⊎ Advances region moves (z n) (z (suc n))) (first : (z 0).steps ≡ 0) where
  -- each step has raised the stamp
  steps_rise : (n : ℕ) → (z n).steps ≤ moves.stamp (z n).now
  steps_rise zero = omega (arith, first)
  steps_rise (suc n) =
      ⊎_elim
      (λ same. subst (λ (q : History State). q.steps ≤ moves.stamp q.now) (sym same) (steps_rise n))
      (λ step. omega (arith, step.rises, step.steps, (numbers region).rises, steps_rise n))
      (each n)

  -- so there are no more steps than stamps below an end
  pub steps_fit : (end most n : ℕ) → ((k : ℕ) → (z k).steps < most → moves.stamp (z k).now < end)
      → (z n).steps ≤ most → (z n).steps ≤ end
  steps_fit end most zero below le = omega (arith, first)
  steps_fit end most (suc n) below le =
      ⊎_elim
      (λ same. subst (λ (q : History State). q.steps ≤ end) (sym same)
      (steps_fit end most n below (subst (λ (q : History State). q.steps ≤ most) same le)))
      (λ step. omega (arith, step.steps, steps_rise n, below n (omega (arith, step.steps, le))))
      (each n)

module _ {C S : Type 0} (region : Region) (console_valid : C → Type 0) (sound_valid : S → Type 0) (console_most sound_most : ℕ)
    (cm : Moves C) (sm : Moves S)
    (console_lawful : IsLawful region console_valid console_most cm) (sound_lawful : IsLawful region sound_valid sound_most sm)
    (c0 : C) (s0 : S) (c0_valid : console_valid c0) (s0_valid : sound_valid s0) where
  -- a pair that stays below an end has made no more steps than twice its stamps
  pub steps_below : (end : ℕ) (c : History C) (s : History S) → IsOnRun cm sm c0 s0 c s → StaysBelow cm sm c0 s0 end c s
      → c.steps + s.steps ≤ 2 * end
  steps_below end c s on below =
      let by_console = steps_fit region cm (λ k. (serial_run cm sm c0 s0 k).console)
      (console_each region console_valid sound_valid console_most sound_most cm sm console_lawful sound_lawful c0 s0 c0_valid s0_valid)
      refl end c.steps on.console_turns below.console
      (subst (λ (q : History C). q.steps ≤ c.steps) (sym on.console_is) (omega arith)) in
      let by_sound = steps_fit region sm (λ k. (serial_run cm sm c0 s0 k).sound)
      (sound_each region console_valid sound_valid console_most sound_most cm sm console_lawful sound_lawful c0 s0 c0_valid s0_valid)
      refl end s.steps on.sound_turns below.sound
      (subst (λ (q : History S). q.steps ≤ s.steps) (sym on.sound_is) (omega arith)) in
      omega (
        arith,
        subst (λ (q : History C). q.steps ≤ end) on.console_is by_console,
        subst (λ (q : History S). q.steps ≤ end) on.sound_is by_sound,
      )

-- a pair that stays below the end has made no more steps than the run to it has turns
pub steps_of_run : {C S : Type 0} (cm : Moves C) (sm : Moves S) (c0 : C) (s0 : S) (end n : ℕ) → RunsFor cm sm (serial_of c0 s0) end n
    → (c : History C) (s : History S) → StaysBelow cm sm c0 s0 end c s → c.steps + s.steps ≤ n
steps_of_run cm sm c0 s0 end n runs c s below =
    let t = of_run cm sm c0 s0 n in
    let by_console : c.steps ≤ (serial_run cm sm c0 s0 n).console.steps =
    ⊎_elim
    (λ fewer. absurd (omega (arith, below.console n fewer, subst (λ q. end ≤ cm.stamp q) (sym t.console) runs.past.console)))
    (λ le. le)
    (cases_lt (serial_run cm sm c0 s0 n).console.steps c.steps) in
    let by_sound : s.steps ≤ (serial_run cm sm c0 s0 n).sound.steps =
    ⊎_elim
    (λ fewer. absurd (omega (arith, below.sound n fewer, subst (λ q. end ≤ sm.stamp q) (sym t.sound) runs.past.sound)))
    (λ le. le)
    (cases_lt (serial_run cm sm c0 s0 n).sound.steps s.steps) in
    omega (arith, by_console, by_sound, t.turns)
