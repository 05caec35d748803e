-- Where two machines stand after a legal list: at a place of the serial run.
use Rattle.std.specs.Prelude.{◌≡◌, ℕ, ◌≤◌}
use Rattle.side_law.specs.Moves.{Moves}
use Rattle.commute_laws.specs.OnRun.{IsOnRun}
use Rattle.run_laws.specs.Legal.{Halves}

-- a state of two sides that run by themselves is on the serial run, after so many steps of each,
-- and neither clock is above its machine's stamp
pub record IsSerialAt {C S : Type 0} (console_moves : Moves C) (sound_moves : Moves S) (console_start : C) (sound_start : S) (i j : ℕ) (h : Halves C S) : Type 0 where
  pub on_run : IsOnRun console_moves sound_moves console_start sound_start h.console.history h.sound.history
  pub console_steps : h.console.history.steps ≡ i
  pub sound_steps : h.sound.history.steps ≡ j
  pub console_clock : h.console.clock ≤ console_moves.stamp h.console.history.now
  pub sound_clock : h.sound.clock ≤ sound_moves.stamp h.sound.history.now
