-- What the two loops took of a console that is ready is what was taken of the job, in few turns.
use Rattle.std.proofs.Common.{◌≡◌, ◌≤◌, ◌+◌, ◌*◌, ℕ, List, Result, Ok, Err, IfOk, sym, subst, arith}
use Rattle.snes_defs.specs.declared.cart.Job.{Job}
use Rattle.snes_defs.specs.declared.ports.Side.{Side}
use Rattle.snes_defs.specs.declared.ports.Side.TheVariants as side
use Rattle.snes_defs.specs.declared.region.Region.{Region}
use Rattle.snes_defs.specs.declared.region.Region.TheVariants.{Ntsc, Pal}
use Rattle.clock_ratio.specs.Stamp.{rate_of, end_stamp_of}
use Rattle.console_steps.specs.ConsoleState.{ConsoleState, console_moves}
use Rattle.console_machine.specs.Side.{ConsoleValue}
use Rattle.console_machine.specs.Side as console_side
use Rattle.audio_side.specs.Sound.{AudioValue, SoundState, IsSound, sound_moves}
use Rattle.audio_side.specs.Sound as sound_side
use Rattle.port_log.specs.PortsKnown.{PortsKnown}
use Rattle.port_log.specs.Wholes.{WholeValue}
use Rattle.word_log.specs.WordsKnown.{WordsKnown}
use Rattle.word_log.specs.Wholes as words
use Rattle.run_laws.specs.TurnBound.{most_turns}
use Rattle.run_drive.specs.Run.{TookRun, TookFirst}
use Rattle.run_drive.specs.Played.{PlayedWhole, PlayedFirst}
use Rattle.turn_drive.specs.Cycle.{StepsByCycle}
use Rattle.job_player.specs.Start.{console_of, sound_of, Emits, IsAtStart, IsReady}
use Rattle.job_player.proofs.Plays.{played_whole, played_first}

-- a fact of what an Ok carries gives another
pub if_ok : {A E : Type 0} {P Q : A → Type 0} (r : Result A E) → IfOk r P → ((a : A) → P a → Q a) → IfOk r Q
if_ok (Ok a) h f = f a h
if_ok (Err e) h f = tt

-- one cycle further is one cycle's stamps
cycle_rises : (r : Region) (n : ℕ) → rate_of r side.Sound * (n + 1) ≡ rate_of r side.Sound * n + rate_of r side.Sound * 1
cycle_rises Ntsc n = omega arith
cycle_rises Pal n = omega arith

at_zero : (r : Region) (s : Side) → rate_of r s * 0 ≡ 0
at_zero Ntsc side.Console = omega arith
at_zero Ntsc side.Sound = omega arith
at_zero Pal side.Console = omega arith
at_zero Pal side.Sound = omega arith

steps_by_cycle : (region : Region) → StepsByCycle region (IsSound region) sound_moves
steps_by_cycle region = λ m got valid byte.
    subst (λ (r : Region). rate_of m.clock.region side.Sound * (m.clock.cycle + 1) ≡ rate_of m.clock.region side.Sound * m.clock.cycle + rate_of r side.Sound * 1)
    valid (cycle_rises m.clock.region m.clock.cycle)

module _ (holds : Side → List ℕ → Type 0) (c : ConsoleValue) (s : AudioValue) (ports : PortsKnown) (both : WholeValue) (of_words : WordsKnown) (word_both : words.WholeValue) (end size : ℕ) where
  pub ready_whole : ((m : ConsoleState) (n : SoundState) → console_side.StandsAt c m → sound_side.StandsAt s n → TookRun console_moves sound_moves m n end holds)
      → (job : Job) → IsReady c s ports both of_words word_both end size job → PlayedWhole (Emits job) holds
  ready_whole took job h = played_whole holds c s end size took job h.start

  pub ready_first : ((m : ConsoleState) (n : SoundState) → console_side.StandsAt c m → sound_side.StandsAt s n → TookFirst console_moves sound_moves m n end holds)
      → (job : Job) → IsReady c s ports both of_words word_both end size job → PlayedFirst (Emits job) holds
  ready_first took job h = played_first holds c s end size took job h.start

module _ (c : ConsoleValue) (s : AudioValue) (ports : PortsKnown) (both : WholeValue) (of_words : WordsKnown) (word_both : words.WholeValue) (end size turns : ℕ) where
  -- a bound on turns by the region that a wire has
  bounded_by : (region : Region) → ((m : ConsoleState) (n : SoundState) (frames : ℕ) → console_side.StandsAt c m → sound_side.StandsAt s n → console_moves.stamp m ≡ 0 → sound_moves.stamp n ≡ 0
      → StepsByCycle region (IsSound region) sound_moves → end ≡ end_stamp_of region frames → turns ≤ most_turns region frames)
      → (job : Job) → region ≡ job.region → IsAtStart c s end size job → turns ≤ most_turns job.region job.frames
  bounded_by region bound job is h =
      subst (λ (r : Region). turns ≤ most_turns r job.frames) is
      (bound (console_of job) (sound_of job) job.frames h.console h.sound (at_zero job.region side.Console) (at_zero job.region side.Sound)
      (steps_by_cycle region) (subst (λ (r : Region). end ≡ end_stamp_of r job.frames) (sym is) h.end_is))

  pub ready_bounded : ((m : ConsoleState) (n : SoundState) (frames : ℕ) → console_side.StandsAt c m → sound_side.StandsAt s n → console_moves.stamp m ≡ 0 → sound_moves.stamp n ≡ 0
      → StepsByCycle ports.region (IsSound ports.region) sound_moves → end ≡ end_stamp_of ports.region frames → turns ≤ most_turns ports.region frames)
      → (job : Job) → IsReady c s ports both of_words word_both end size job → turns ≤ most_turns job.region job.frames
  ready_bounded bound job h = bounded_by ports.region bound job h.region_is h.start

  pub words_bounded : ((m : ConsoleState) (n : SoundState) (frames : ℕ) → console_side.StandsAt c m → sound_side.StandsAt s n → console_moves.stamp m ≡ 0 → sound_moves.stamp n ≡ 0
      → StepsByCycle of_words.region (IsSound of_words.region) sound_moves → end ≡ end_stamp_of of_words.region frames → turns ≤ most_turns of_words.region frames)
      → (job : Job) → IsReady c s ports both of_words word_both end size job → turns ≤ most_turns job.region job.frames
  words_bounded bound job h = bounded_by of_words.region bound job h.words_region_is h.start
