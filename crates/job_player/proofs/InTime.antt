-- How late both sides are at the end of a job, and that many turns later: long before the stamp 2^62.
use Rattle.std.proofs.Common.{◌≡◌, ℕ, zero, suc, ◌+◌, ◌*◌, ◌^◌, ◌<◌, ◌≤◌, refl, sym, subst, ⊎_elim, arith}
use Rattle.std.proofs.lemmas.Bool.{cases_lt}
use Rattle.snes_defs.specs.declared.cart.Job.{Job}
use Rattle.snes_defs.specs.declared.region.Region.{Region}
use Rattle.snes_defs.specs.declared.region.Region.TheVariants.{Ntsc, Pal}
use Rattle.snes_defs.specs.declared.ports.Side.{Side}
use Rattle.snes_defs.specs.declared.ports.Side.TheVariants.{Console, Sound}
use Rattle.clock_ratio.specs.Stamp.{rate_of, most_of}
use Rattle.side_law.specs.Serial.{SerialState, serial_of, turn, console_step, sound_step, console_got, sound_got}
use Rattle.side_law.specs.SerialRun.{RunsFor, IsPast, after_turns}
use Rattle.side_law.proofs.SerialKeeps.{IsServing, TurnOf, by_console, by_sound, turn_of, turn_console, turn_sound, turn_serves, serving_at_first, got_small, console_step_rises, sound_step_rises}
use Rattle.console_steps.specs.ConsoleState.{ConsoleState, console_moves}
use Rattle.console_machine.specs.Side.{IsConsoleOf}
use Rattle.console_machine.specs.SideLaws.{console_is_lawful}
use Rattle.audio_side.specs.Sound.{IsSound, SoundState, sound_moves}
use Rattle.audio_side.specs.SoundLaws.{sound_is_lawful}
use Rattle.job_player.specs.Start.{console_of, sound_of, end_of}
use Rattle.job_player.specs.Left.{after}
use Rattle.job_player.specs.Sounded.{onward, IsLate}
use Rattle.job_player.proofs.Ends.{ends_soon}

most_is : (region : Region) → most_of region ≤ 4096000
most_is Ntsc = omega arith
most_is Pal = omega arith

module _ (region : Region) where
  -- valid states, and neither side is more than a step ahead of the other
  record IsClose (w : SerialState ConsoleState SoundState) : Type 0 where
    serving : IsServing (IsConsoleOf region) (IsSound region) w
    console : console_moves.stamp w.console ≤ sound_moves.stamp w.sound + 4096000
    sound : sound_moves.stamp w.sound ≤ console_moves.stamp w.console + 4096000

  -- both sides are at this stamp at most
  record IsBy (stamp : ℕ) (w : SerialState ConsoleState SoundState) : Type 0 where
    console : console_moves.stamp w.console ≤ stamp
    sound : sound_moves.stamp w.sound ≤ stamp

  console_at_most : (w : SerialState ConsoleState SoundState) → IsServing (IsConsoleOf region) (IsSound region) w
      → console_moves.stamp (console_step console_moves sound_moves w).console ≤ console_moves.stamp w.console + 4096000
  console_at_most w h =
      let rise = (console_is_lawful region).rises_at_most w.console (console_got console_moves sound_moves w) h.console (got_small (console_moves.act w.console) w.to_console h.to_console) in
      omega (arith, rise, most_is region)

  sound_at_most : (w : SerialState ConsoleState SoundState) → IsServing (IsConsoleOf region) (IsSound region) w
      → sound_moves.stamp (sound_step console_moves sound_moves w).sound ≤ sound_moves.stamp w.sound + 4096000
  sound_at_most w h =
      let rise = (sound_is_lawful region).rises_at_most w.sound (sound_got console_moves sound_moves w) h.sound (got_small (sound_moves.act w.sound) w.to_sound h.to_sound) in
      omega (arith, rise, most_is region)

  console_rises : (w : SerialState ConsoleState SoundState) → IsServing (IsConsoleOf region) (IsSound region) w
      → console_moves.stamp w.console ≤ console_moves.stamp (console_step console_moves sound_moves w).console
  console_rises w h =
      let rise = console_step_rises region (IsConsoleOf region) (IsSound region) 1024 4 console_moves sound_moves (console_is_lawful region) (sound_is_lawful region) w h in
      omega (arith, rise)

  sound_rises : (w : SerialState ConsoleState SoundState) → IsServing (IsConsoleOf region) (IsSound region) w
      → sound_moves.stamp w.sound ≤ sound_moves.stamp (sound_step console_moves sound_moves w).sound
  sound_rises w h =
      let rise = sound_step_rises region (IsConsoleOf region) (IsSound region) 1024 4 console_moves sound_moves (console_is_lawful region) (sound_is_lawful region) w h in
      omega (arith, rise)

  serves : (w : SerialState ConsoleState SoundState) → IsServing (IsConsoleOf region) (IsSound region) w → IsServing (IsConsoleOf region) (IsSound region) (turn console_moves sound_moves w)
  serves w h = turn_serves region (IsConsoleOf region) (IsSound region) 1024 4 console_moves sound_moves (console_is_lawful region) (sound_is_lawful region) w h

  -- one turn keeps them close
  close_turn : (w : SerialState ConsoleState SoundState) → IsClose w → IsClose (turn console_moves sound_moves w)
  close_turn w h = go (turn_of console_moves sound_moves w)
    where
      made_close : (v : SerialState ConsoleState SoundState) → turn console_moves sound_moves w ≡ v
          → console_moves.stamp v.console ≤ sound_moves.stamp v.sound + 4096000 → sound_moves.stamp v.sound ≤ console_moves.stamp v.console + 4096000
          → IsClose (turn console_moves sound_moves w)
      made_close v e console sound = subst IsClose (sym e) (record { serving = subst (IsServing (IsConsoleOf region) (IsSound region)) e (serves w h.serving); console = console; sound = sound })

      go : TurnOf console_moves sound_moves w → IsClose (turn console_moves sound_moves w)
      go (by_console le e) =
          made_close (console_step console_moves sound_moves w) (turn_console console_moves sound_moves w e)
          (omega (arith, le, console_at_most w h.serving)) (omega (arith, h.sound, console_rises w h.serving))
      go (by_sound lt e) =
          made_close (sound_step console_moves sound_moves w) (turn_sound console_moves sound_moves w e)
          (omega (arith, h.console, sound_rises w h.serving)) (omega (arith, lt, sound_at_most w h.serving))

  close_turns : (w : SerialState ConsoleState SoundState) (n : ℕ) → IsClose w → IsClose (after_turns console_moves sound_moves w n)
  close_turns w zero h = h
  close_turns w (suc n) h = close_turn (after_turns console_moves sound_moves w n) (close_turns w n h)

  -- a turn from a state that is not past the end comes at most a step behind it
  by_the_end : (w : SerialState ConsoleState SoundState) (end : ℕ) → IsClose w → ¬ IsPast console_moves sound_moves end w
      → IsBy (end + 4096000) (turn console_moves sound_moves w)
  by_the_end w end h short = go (turn_of console_moves sound_moves w)
    where
      go : TurnOf console_moves sound_moves w → IsBy (end + 4096000) (turn console_moves sound_moves w)
      go (by_console le e) =
          ⊎_elim
          (λ (lt : console_moves.stamp w.console < end).
          subst (IsBy (end + 4096000)) (sym (turn_console console_moves sound_moves w e))
          (record { console = omega (arith, lt, console_at_most w h.serving); sound = omega (arith, lt, h.sound) }))
          (λ (past : end ≤ console_moves.stamp w.console). absurd (short (record { console = past; sound = omega (arith, past, le) })))
          (cases_lt (console_moves.stamp w.console) end)
      go (by_sound lt e) =
          ⊎_elim
          (λ (early : sound_moves.stamp w.sound < end).
          subst (IsBy (end + 4096000)) (sym (turn_sound console_moves sound_moves w e))
          (record { console = omega (arith, early, h.console); sound = omega (arith, early, sound_at_most w h.serving) }))
          (λ (past : end ≤ sound_moves.stamp w.sound). absurd (short (record { console = omega (arith, past, lt); sound = past })))
          (cases_lt (sound_moves.stamp w.sound) end)

  -- each turn adds a step at most
  by_turn : (w : SerialState ConsoleState SoundState) (stamp : ℕ) → IsClose w → IsBy stamp w → IsBy (stamp + 4096000) (turn console_moves sound_moves w)
  by_turn w stamp h k = go (turn_of console_moves sound_moves w)
    where
      go : TurnOf console_moves sound_moves w → IsBy (stamp + 4096000) (turn console_moves sound_moves w)
      go (by_console le e) =
          subst (IsBy (stamp + 4096000)) (sym (turn_console console_moves sound_moves w e))
          (record { console = omega (arith, k.console, console_at_most w h.serving); sound = omega (arith, k.sound) })
      go (by_sound lt e) =
          subst (IsBy (stamp + 4096000)) (sym (turn_sound console_moves sound_moves w e))
          (record { console = omega (arith, k.console); sound = omega (arith, k.sound, sound_at_most w h.serving) })

  by_turns : (w : SerialState ConsoleState SoundState) (stamp n : ℕ) → IsClose w → IsBy stamp w → IsBy (stamp + 4096000 * n) (after_turns console_moves sound_moves w n)
  by_turns w stamp zero h k = record { console = omega (arith, k.console); sound = omega (arith, k.sound) }
  by_turns w stamp (suc n) h k =
      let b = by_turn (after_turns console_moves sound_moves w n) (stamp + 4096000 * n) (close_turns w n h) (by_turns w stamp n h k) in
      record { console = omega (arith, b.console); sound = omega (arith, b.sound) }

at_zero : (region : Region) (side : Side) → rate_of region side * 0 ≡ 0
at_zero Ntsc Console = omega arith
at_zero Ntsc Sound = omega arith
at_zero Pal Console = omega arith
at_zero Pal Sound = omega arith

zero_is_least : (n m : ℕ) → n ≡ 0 → n ≤ m
zero_is_least n m is = omega (arith, is)

too_late : (stamp end more : ℕ) → stamp ≤ (end + 4096000) + 4096000 * more → end ≤ 2 ^ 51 → more ≤ 1048576 → 2 ^ 62 < stamp → ⊥
too_late stamp end more most soon little late = absurd (omega (arith, most, soon, little, late))

module _ (job : Job) where
  start : SerialState ConsoleState SoundState
  start = serial_of (console_of job) (sound_of job)

  console_first : console_moves.stamp (console_of job) ≡ 0
  console_first = at_zero job.region Console

  sound_first : sound_moves.stamp (sound_of job) ≡ 0
  sound_first = at_zero job.region Sound

  close_at_first : IsClose job.region start
  unfolding start
  close_at_first = record {
    serving = serving_at_first (IsConsoleOf job.region) (IsSound job.region) (console_of job) (sound_of job) (record { region = refl; line = omega arith }) refl;
    console = zero_is_least _ _ console_first;
    sound = zero_is_least _ _ sound_first;
  }

  close_after : (turns : ℕ) → IsClose job.region (after job turns)
  unfolding start
  close_after turns = close_turns job.region start turns close_at_first

  -- where the run has ended, both sides are at most a step behind its end
  ended_by : (turns : ℕ) → RunsFor console_moves sound_moves (serial_of (console_of job) (sound_of job)) (end_of job) turns → IsBy job.region (end_of job + 4096000) (after job turns)
  ended_by zero runs = record { console = zero_is_least _ _ console_first; sound = zero_is_least _ _ sound_first }
  ended_by (suc n) runs = by_the_end job.region (after job n) (end_of job) (close_after n) (runs.first n (omega arith))

  pub not_late : job.frames ≤ 36000 → (turns : ℕ) → RunsFor console_moves sound_moves (serial_of (console_of job) (sound_of job)) (end_of job) turns
      → (more : ℕ) → more ≤ 1048576 → IsLate (onward (after job turns) more) → ⊥
  unfolding onward
  not_late few turns runs more little late =
      let bound = by_turns job.region (after job turns) (end_of job + 4096000) more (close_after turns) (ended_by turns runs) in
      let soon = ends_soon job.region job.frames few in
      ⊎_elim (too_late _ (end_of job) more bound.console soon little) (too_late _ (end_of job) more bound.sound soon little) late
