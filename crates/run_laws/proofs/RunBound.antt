-- How many turns the serial run to the end of so many frames has.
use Rattle.std.proofs.Common.{◌≡◌, ℕ, zero, suc, ◌+◌, ◌*◌, ◌<◌, ◌≤◌, sym, subst, ⊎_elim, arith}
use Rattle.std.proofs.lemmas.Bool.{cases_lt}
use Rattle.snes_defs.specs.declared.region.Region.{Region}
use Rattle.snes_defs.specs.declared.ports.Side.TheVariants.{Sound}
use Rattle.clock_ratio.specs.Stamp.{stamp_of, rate_of, least_of, frame_of, end_stamp_of}
use Rattle.clock_ratio.proofs.Numbers.{numbers}
use Rattle.side_law.specs.Moves.{Moves, IsLawful}
use Rattle.side_law.specs.Serial.{SerialState, serial_of, turn, sound_step, sound_got}
use Rattle.side_law.specs.SerialRun.{after_turns, IsPast, RunsFor}
use Rattle.run_laws.specs.TurnBound.{frame_turns, most_turns}
use Rattle.run_laws.proofs.Counts.{steps_fit, frame_fits}
use Rattle.side_law.proofs.SerialKeeps.{IsServing, got_small, serving_at_first, TurnOf, by_console, by_sound, turn_of, turn_console, turn_sound, turn_serves, console_step_rises}

module _ {C S : Type 0} (region : Region) (console_valid : C → Type 0) (sound_valid : S → Type 0) (console_most sound_most : ℕ)
    (cm : Moves C) (sm : Moves S)
    (console_lawful : IsLawful region console_valid console_most cm) (sound_lawful : IsLawful region sound_valid sound_most sm)
    (by_a_cycle : (m : S) (got : ℕ) → sound_valid m → got < 256 → sm.stamp (sm.next m got) ≡ sm.stamp m + stamp_of region Sound 1) where
  -- how many steps each side has made by then: each was made below the end, and raised its stamp
  record Counted (end n : ℕ) (w : SerialState C S) : Type 0 where
    serves : IsServing console_valid sound_valid w
    console : ℕ
    sound : ℕ
    all : console + sound ≡ n
    console_stamp : least_of region * console ≤ cm.stamp w.console
    sound_stamp : rate_of region Sound * sound ≤ sm.stamp w.sound
    console_below : least_of region * console < end + least_of region
    sound_below : rate_of region Sound * sound < end + rate_of region Sound

  counted_on : (end n : ℕ) (w : SerialState C S) → ¬ IsPast cm sm end w → Counted end n w → Counted end (suc n) (turn cm sm w)
  counted_on end n w short h = go (turn_of cm sm w)
    where
      serves_on : IsServing console_valid sound_valid (turn cm sm w)
      serves_on = turn_serves region console_valid sound_valid console_most sound_most cm sm console_lawful sound_lawful w h.serves

      go : TurnOf cm sm w → Counted end (suc n) (turn cm sm w)
      go (by_console le e) =
          let early : cm.stamp w.console < end =
          ⊎_elim (λ lt. lt) (λ c. absurd (short (record { console = c; sound = omega (arith, c, le) }))) (cases_lt (cm.stamp w.console) end) in
          let rises = console_step_rises region console_valid sound_valid console_most sound_most cm sm console_lawful sound_lawful w h.serves in
          record {
            serves = serves_on;
            console = suc h.console;
            sound = h.sound;
            all = omega (arith, h.all);
            console_stamp = subst (λ (v : SerialState C S). least_of region * suc h.console ≤ cm.stamp v.console) (sym (turn_console cm sm w e))
                (omega (arith, rises, h.console_stamp));
            sound_stamp = subst (λ (v : SerialState C S). rate_of region Sound * h.sound ≤ sm.stamp v.sound) (sym (turn_console cm sm w e)) h.sound_stamp;
            console_below = omega (arith, early, h.console_stamp);
            sound_below = h.sound_below;
          }
      go (by_sound lt e) =
          let early : sm.stamp w.sound < end =
          ⊎_elim (λ lt. lt) (λ s. absurd (short (record { console = omega (arith, s, lt); sound = s }))) (cases_lt (sm.stamp w.sound) end) in
          let rises : sm.stamp (sound_step cm sm w).sound ≡ sm.stamp w.sound + rate_of region Sound =
          omega (arith, by_a_cycle w.sound (sound_got cm sm w) h.serves.sound (got_small (sm.act w.sound) w.to_sound h.serves.to_sound)) in
          record {
            serves = serves_on;
            console = h.console;
            sound = suc h.sound;
            all = omega (arith, h.all);
            console_stamp = subst (λ (v : SerialState C S). least_of region * h.console ≤ cm.stamp v.console) (sym (turn_sound cm sm w e)) h.console_stamp;
            sound_stamp = subst (λ (v : SerialState C S). rate_of region Sound * suc h.sound ≤ sm.stamp v.sound) (sym (turn_sound cm sm w e))
                (omega (arith, rises, h.sound_stamp));
            console_below = h.console_below;
            sound_below = omega (arith, early, h.sound_stamp);
          }

  counted : (c0 : C) (s0 : S) → console_valid c0 → sound_valid s0 → (end n : ℕ)
      → ((k : ℕ) → k < n → ¬ IsPast cm sm end (after_turns cm sm (serial_of c0 s0) k))
      → Counted end n (after_turns cm sm (serial_of c0 s0) n)
  counted c0 s0 c0_valid s0_valid end zero short = record {
    serves = serving_at_first console_valid sound_valid c0 s0 c0_valid s0_valid;
    console = 0;
    sound = 0;
    all = omega arith;
    console_stamp = omega arith;
    sound_stamp = omega arith;
    console_below = omega (arith, (numbers region).rises);
    sound_below = omega (arith, (numbers region).rises, (numbers region).cycle_low);
  }
  counted c0 s0 c0_valid s0_valid end (suc n) short =
      counted_on end n (after_turns cm sm (serial_of c0 s0) n) (short n (omega arith))
      (counted c0 s0 c0_valid s0_valid end n (λ k lt. short k (omega (arith, lt))))

  pub run_bounded : (c0 : C) (s0 : S) → console_valid c0 → sound_valid s0 → (frames n : ℕ)
      → RunsFor cm sm (serial_of c0 s0) (end_stamp_of region frames) n → n ≤ most_turns region frames
  run_bounded c0 s0 c0_valid s0_valid frames n runs =
      let h = counted c0 s0 c0_valid s0_valid (end_stamp_of region frames) n runs.first in
      omega (
        arith,
        h.all,
        steps_fit (least_of region) (rate_of region Sound) (frame_of region) (frame_turns region) frames h.console h.sound
            (numbers region).rises (omega (arith, (numbers region).rises, (numbers region).cycle_low)) (frame_fits region)
            h.console_below h.sound_below,
      )
