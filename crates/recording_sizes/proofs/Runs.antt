-- What a serial run has emitted, by where its two sides are.
use Rattle.std.proofs.Common.{◌≡◌, ℕ, zero, suc, ◌+◌, ◌*◌, ◌/◌, ◌<◌, ◌≤◌, List, [], length, length-append, refl, sym, ap, subst, ◌∙◌, ⊎_elim, arith, if◌then◌else◌}
use Rattle.std.proofs.lemmas.Bool.{cases_lt}
use Rattle.snes_defs.specs.declared.region.Region.{Region}
use Rattle.snes_defs.specs.declared.region.Region.TheVariants.{Ntsc, Pal}
use Rattle.snes_defs.specs.declared.ports.Side.TheVariants.{Console, Sound}
use Rattle.clock_ratio.specs.Stamp.{rate_of, end_stamp_of}
use Rattle.beam.specs.Events.{lines_of, happens_next, next_h, next_v}
use Rattle.side_law.specs.Serial.{SerialState, turn, console_step, sound_step, console_emits, sound_emits, console_got, sound_got}
use Rattle.side_law.specs.SerialRun.{IsPast, IsOutput, after_turns, console_output, sound_output}
use Rattle.side_law.proofs.SerialKeeps.{TurnOf, by_console, by_sound, turn_of}
use Rattle.console_steps.specs.ConsoleState.{ConsoleState, Due, due_of, due_clocks, effect, rest_after, moved, events_next, overscan_of, after_clocks, bytes_in, bytes_of_events, console_after, bytes_after, console_moves}
use Rattle.console_machine.specs.Keeping.{effect_beam}
use Rattle.console_machine.specs.SideLaws.{due_step}
use Rattle.audio_side.specs.Sound.{SoundState, sound_moves, hardware_before_end}
use Rattle.snapshot.proofs.Effects.{effect_keeps}
use Rattle.snapshot.proofs.Numbers.{frame_clocks, clock_at, few_frames, early_clock, ends_within, longest, some_lines}
use Rattle.snapshot.proofs.Clocks.{IsTimed, events_beam, beam_line, beam_dot}
use Rattle.snapshot.proofs.ConsoleStates.{after_one, one_on, one_timed, one_later, effect_timed}
use Rattle.snes_defs.specs.declared.cart.Job.{Job}
use Rattle.snes_defs.specs.Script.{frames_of}
use Rattle.plan_drive.specs.Paths.{Path}
use Rattle.snapshot.specs.Path.{PathEmits, start_of}
use Rattle.recording_sizes.specs.Sizes.{HaveSizesOf}
use Rattle.recording_sizes.proofs.Rows.{bytes_size, draws, draws_of, draws_next, one, is_row, rows_by, rows_so, frame_top}
use Rattle.recording_sizes.proofs.Samples.{emitted_size, samples_so, samples_at_end}

-- ---- the console

-- it has emitted so many bytes: 1,024 for each row whose place the beam has passed
pub record HasShown (own : Region) (w : ConsoleState) (size : ℕ) : Type 0 where
  pub timed : IsTimed own w
  pub size_is : size ≡ 1024 * (239 * w.rest.frame + rows_by w.rest.beam.v w.rest.beam.h)

one_shown : (own : Region) (w : ConsoleState) (size : ℕ) → HasShown own w size → w.rest.frame < 65535
    → HasShown own (after_one w) (size + length (bytes_of_events (moved w) (events_next w)))
one_shown own w size h few =
    let b = w.rest.beam in
    let n = after_one w in
    let on = one_on own w h.timed few in
    let t = one_timed own w h.timed few in
    let o = overscan_of w in
    let rows = rows_so own w.rest.frame b.v b.h n.rest.frame n.rest.beam.v n.rest.beam.h h.timed.line h.timed.dot on.dot on.line on.frame in
    let row = bytes_size (moved w) (events_next w) in
    let beam = events_beam (moved w) (events_next w) in
    let line : n.rest.beam.v ≡ next_v b.region b.v b.h = ap (λ x. x.v) beam ∙ beam_line o b in
    let dot : n.rest.beam.h ≡ next_h b.h = ap (λ x. x.h) beam ∙ beam_dot o b in
    let drawn : draws (events_next w) ≡ one (is_row n.rest.beam.v n.rest.beam.h) =
    draws_of (happens_next o b) ∙ ap one (draws_next o b ∙ ap (λ v. is_row v (next_h b.h)) (sym line) ∙ ap (is_row n.rest.beam.v) (sym dot)) in
    let was = h.size_is in
    record { timed = t; size_is = omega (arith, rows, row, drawn, was) }

pub clocks_later : (k : ℕ) (w : ConsoleState) → (after_clocks w k).clock ≡ w.clock + k
unfolding after_clocks
clocks_later zero w = omega arith
clocks_later (suc k) w = let rest = clocks_later k (after_one w) in let first = one_later w in omega (arith, rest, first)

clocks_shown : (own : Region) (k : ℕ) (w : ConsoleState) (size : ℕ) → HasShown own w size → w.clock + k < frame_clocks own * 65535
    → HasShown own (after_clocks w k) (size + length (bytes_in w k))
unfolding after_clocks bytes_in
clocks_shown own zero w size h small = subst (HasShown own w) (omega arith) h
clocks_shown own (suc k) w size h small =
    let first = one_later w in
    let few = few_frames own w.rest.frame w.rest.beam.v w.rest.beam.h w.clock h.timed.clock (omega (arith, small)) in
    let now = bytes_of_events (moved w) (events_next w) in
    let both = length-append now (bytes_in (after_one w) k) in
    subst (HasShown own (after_clocks (after_one w) k)) (omega (arith, both))
    (clocks_shown own k (after_one w) (size + length now) (one_shown own w size h few) (omega (arith, small, first)))

effect_shown : (own : Region) (w : ConsoleState) (d : Due) (got size : ℕ) → HasShown own w size → HasShown own (effect w d got) size
effect_shown own w d got size h =
    let k = effect_keeps w.rest d got in
    let b = effect_beam w.rest d got in
    record {
      timed = effect_timed own w d got h.timed;
      size_is = h.size_is
          ∙ ap (λ n. 1024 * (239 * n + rows_by w.rest.beam.v w.rest.beam.h)) (sym k.frame)
          ∙ ap (λ n. 1024 * (239 * (rest_after w.rest d got).frame + rows_by n w.rest.beam.h)) (sym k.line)
          ∙ ap (λ n. 1024 * (239 * (rest_after w.rest d got).frame + rows_by (rest_after w.rest d got).beam.v n)) (sym b.clock);
    }

step_shown : (own : Region) (w : ConsoleState) (got size : ℕ) → HasShown own w size → rate_of own Console * w.clock < longest own
    → HasShown own (console_after w (due_of w) got) (size + length (bytes_after w (due_of w) got))
step_shown own w got size h lt =
    let few = (due_step (due_of w) w.rest.io.fast).most in
    let early = early_clock own w.clock lt in
    clocks_shown own (due_clocks (due_of w) w.rest.io.fast) (effect w (due_of w) got) size (effect_shown own w (due_of w) got size h) (omega (arith, few, early))

-- ---- numbers

-- a side that makes a turn before the end has not come to it
console_early : (end : ℕ) (w : SerialState ConsoleState SoundState) → ¬ IsPast console_moves sound_moves end w
    → console_moves.stamp w.console ≤ sound_moves.stamp w.sound → console_moves.stamp w.console < end
console_early end w short le =
    ⊎_elim (λ lt. lt) (λ ge. absurd (short (record { console = ge; sound = omega (arith, ge, le) }))) (cases_lt (console_moves.stamp w.console) end)

sound_early : (end : ℕ) (w : SerialState ConsoleState SoundState) → ¬ IsPast console_moves sound_moves end w
    → sound_moves.stamp w.sound < console_moves.stamp w.console → sound_moves.stamp w.sound < end
sound_early end w short lt =
    ⊎_elim (λ l. l) (λ ge. absurd (short (record { console = omega (arith, ge, lt); sound = ge }))) (cases_lt (sound_moves.stamp w.sound) end)

-- a console before the end is not past the clocks of the frames, and a step later by 40 at most
before_end : (own : Region) (f clock : ℕ) → rate_of own Console * clock < end_stamp_of own f → clock < frame_clocks own * f
before_end Ntsc f clock lt = omega (arith, lt)
before_end Pal f clock lt = omega (arith, lt)

-- at the end it is at the top of the frame behind them
at_top : (own : Region) (f frame v h clock : ℕ) → clock ≡ clock_at own frame v h → v < lines_of own → h < 1364
    → end_stamp_of own f ≤ rate_of own Console * clock → clock < frame_clocks own * f + 40 → (frame ≡ f) × (v ≡ 0)
at_top Ntsc f frame v h clock is line dot past near = (omega (arith, is, line, dot, past, near), omega (arith, is, line, dot, past, near))
at_top Pal f frame v h clock is line dot past near = (omega (arith, is, line, dot, past, near), omega (arith, is, line, dot, past, near))

cycle_later : (own : Region) (end cycle : ℕ) → rate_of own Sound * cycle < end → rate_of own Sound * (cycle + 1) < end + rate_of own Sound
cycle_later Ntsc end cycle lt = omega (arith, lt)
cycle_later Pal end cycle lt = omega (arith, lt)

first_cycle : (own : Region) (end : ℕ) → rate_of own Sound * 0 < end + rate_of own Sound
first_cycle Ntsc end = omega arith
first_cycle Pal end = omega arith

-- ---- both sides

module _ (own : Region) (f : ℕ) (few : f ≤ 36000) where
  pub record HasEmitted (w : SerialState ConsoleState SoundState) (video audio : ℕ) : Type 0 where
    pub shown : HasShown own w.console video
    pub near : w.console.clock < frame_clocks own * f + 40
    pub region : w.sound.clock.region ≡ own
    pub audio_is : audio ≡ 4 * (w.sound.clock.cycle / 32)
    pub sound_near : rate_of own Sound * w.sound.clock.cycle < end_stamp_of own f + rate_of own Sound

  by_the_console : (w : SerialState ConsoleState SoundState) (video audio : ℕ) → HasEmitted w video audio
      → console_moves.stamp w.console < end_stamp_of own f
      → HasEmitted (console_step console_moves sound_moves w) (video + length (console_moves.bytes w.console (console_got console_moves sound_moves w))) audio
  by_the_console w video audio h early =
      let got = console_got console_moves sound_moves w in
      let is : console_moves.stamp w.console ≡ rate_of own Console * w.console.clock = ap (λ r. rate_of r Console * w.console.clock) h.shown.timed.region in
      let within = ends_within own f few in
      let before = before_end own f w.console.clock (omega (arith, early, is)) in
      let most = (due_step (due_of w.console) w.console.rest.io.fast).most in
      let later = clocks_later (due_clocks (due_of w.console) w.console.rest.io.fast) (effect w.console (due_of w.console) got) in
      record {
        shown = step_shown own w.console got video h.shown (omega (arith, early, is, within));
        near = omega (arith, before, most, later);
        region = h.region;
        audio_is = h.audio_is;
        sound_near = h.sound_near;
      }

  by_the_sound : (w : SerialState ConsoleState SoundState) (video audio : ℕ) → HasEmitted w video audio
      → sound_moves.stamp w.sound < end_stamp_of own f
      → HasEmitted (sound_step console_moves sound_moves w) video (audio + length (sound_moves.bytes w.sound (sound_got console_moves sound_moves w)))
  by_the_sound w video audio h early =
      let cycle = w.sound.clock.cycle in
      let is : sound_moves.stamp w.sound ≡ rate_of own Sound * cycle = ap (λ r. rate_of r Sound * cycle) h.region in
      let was = h.audio_is in
      let size = emitted_size cycle (hardware_before_end w.sound) in
      let so = samples_so cycle in
      record {
        shown = h.shown;
        near = h.near;
        region = h.region;
        audio_is = omega (arith, was, size, so);
        sound_near = cycle_later own (end_stamp_of own f) cycle (omega (arith, early, is));
      }

  turn_emits : (w : SerialState ConsoleState SoundState) (video audio : ℕ) → HasEmitted w video audio
      → ¬ IsPast console_moves sound_moves (end_stamp_of own f) w
      → HasEmitted (turn console_moves sound_moves w) (video + length (console_emits console_moves sound_moves w)) (audio + length (sound_emits console_moves sound_moves w))
  turn_emits w video audio h short = go (turn_of console_moves sound_moves w)
    where
      end : ℕ
      end = end_stamp_of own f

      go : TurnOf console_moves sound_moves w
          → HasEmitted (turn console_moves sound_moves w) (video + length (console_emits console_moves sound_moves w)) (audio + length (sound_emits console_moves sound_moves w))
      go (by_console le e) =
          subst (λ b. HasEmitted (if b then console_step console_moves sound_moves w else sound_step console_moves sound_moves w)
          (video + length (if b then console_moves.bytes w.console (console_got console_moves sound_moves w) else []))
          (audio + length (if b then [] else sound_moves.bytes w.sound (sound_got console_moves sound_moves w)))) (sym e)
          (subst (HasEmitted (console_step console_moves sound_moves w) (video + length (console_moves.bytes w.console (console_got console_moves sound_moves w)))) (omega arith)
          (by_the_console w video audio h (console_early end w short le)))
      go (by_sound lt e) =
          subst (λ b. HasEmitted (if b then console_step console_moves sound_moves w else sound_step console_moves sound_moves w)
          (video + length (if b then console_moves.bytes w.console (console_got console_moves sound_moves w) else []))
          (audio + length (if b then [] else sound_moves.bytes w.sound (sound_got console_moves sound_moves w)))) (sym e)
          (subst (λ n. HasEmitted (sound_step console_moves sound_moves w) n (audio + length (sound_moves.bytes w.sound (sound_got console_moves sound_moves w)))) (omega arith)
          (by_the_sound w video audio h (sound_early end w short lt)))

  turns_emit : (w : SerialState ConsoleState SoundState) (n : ℕ) → HasEmitted w 0 0
      → ((k : ℕ) → k < n → ¬ IsPast console_moves sound_moves (end_stamp_of own f) (after_turns console_moves sound_moves w k))
      → HasEmitted (after_turns console_moves sound_moves w n) (length (console_output console_moves sound_moves w n)) (length (sound_output console_moves sound_moves w n))
  turns_emit w zero h short = h
  turns_emit w (suc n) h short =
      let before = turns_emit w n h (λ k lt. short k (omega (arith, lt))) in
      let now = after_turns console_moves sound_moves w n in
      let after = turn_emits now _ _ before (short n (omega arith)) in
      subst (HasEmitted (after_turns console_moves sound_moves w (suc n)) (length (console_output console_moves sound_moves w (suc n))))
      (sym (length-append (sound_output console_moves sound_moves w n) (sound_emits console_moves sound_moves now)))
      (subst (λ v. HasEmitted (after_turns console_moves sound_moves w (suc n)) v (length (sound_output console_moves sound_moves w n) + length (sound_emits console_moves sound_moves now)))
      (sym (length-append (console_output console_moves sound_moves w n) (console_emits console_moves sound_moves now))) after)

  -- the whole of a run that began with nothing emitted
  pub output_size : (w : SerialState ConsoleState SoundState) (video audio : List ℕ) → HasEmitted w 0 0
      → IsOutput console_moves sound_moves w (end_stamp_of own f) video audio → HaveSizesOf own f video audio
  output_size w video audio h out =
      let all = turns_emit w out.turns h out.runs.first in
      let end = after_turns console_moves sound_moves w out.turns in
      let t = all.shown.timed in
      let past = out.runs.past in
      let is : console_moves.stamp end.console ≡ rate_of own Console * end.console.clock = ap (λ r. rate_of r Console * end.console.clock) t.region in
      let sound_is : sound_moves.stamp end.sound ≡ rate_of own Sound * end.sound.clock.cycle = ap (λ r. rate_of r Sound * end.sound.clock.cycle) all.region in
      let there = at_top own f end.console.rest.frame end.console.rest.beam.v end.console.rest.beam.h end.console.clock t.clock t.line t.dot (subst (λ n. end_stamp_of own f ≤ n) is past.console) all.near in
      let top : rows_by end.console.rest.beam.v end.console.rest.beam.h ≡ 0 = ap (λ v. rows_by v end.console.rest.beam.h) there.1 ∙ frame_top end.console.rest.beam.h in
      let size = all.shown.size_is in
      let frame = there.0 in
      let video_is = ap length out.video_is in
      let audio_is = ap length out.audio_is in
      let samples = samples_at_end own f end.sound.clock.cycle (subst (λ n. end_stamp_of own f ≤ n) sound_is past.sound) all.sound_near in
      let made = all.audio_is in
      record { video_size = omega (arith, size, top, frame, video_is); audio_size = omega (arith, made, samples, audio_is) }

-- a console and a sound side before their first step have emitted nothing
pub nothing_emitted : (own : Region) (f : ℕ) (few : f ≤ 36000) (w : SerialState ConsoleState SoundState)
    → w.console.rest.beam.region ≡ own → w.console.clock ≡ 0 → w.console.rest.frame ≡ 0 → w.console.rest.beam.v ≡ 0 → w.console.rest.beam.h ≡ 0
    → w.sound.clock.region ≡ own → w.sound.clock.cycle ≡ 0 → HasEmitted own f few w 0 0
nothing_emitted own f few w region clock frame line dot sound_region cycle =
    let some = some_lines own in
    let top : rows_by w.console.rest.beam.v w.console.rest.beam.h ≡ 0 = ap (λ v. rows_by v w.console.rest.beam.h) line ∙ frame_top w.console.rest.beam.h in
    record {
      shown = record {
        timed = record {
          region = region;
          clock = clock ∙ at_first own ∙ sym (ap (λ n. clock_at own n w.console.rest.beam.v w.console.rest.beam.h) frame ∙ ap (λ n. clock_at own 0 n w.console.rest.beam.h) line ∙ ap (clock_at own 0 0) dot);
          line = omega (arith, line, some);
          dot = omega (arith, dot);
        };
        size_is = omega (arith, frame, top);
      };
      near = omega (arith, clock);
      region = sound_region;
      audio_is = omega (arith, cycle);
      sound_near = subst (λ n. rate_of own Sound * n < end_stamp_of own f + rate_of own Sound) (sym cycle) (first_cycle own (end_stamp_of own f));
    }
  where
    at_first : (own : Region) → 0 ≡ clock_at own 0 0 0
    at_first own = omega arith

-- what a path emits
pub path_size : (job : Job) (n : ℕ) (path : Path) (video audio : List ℕ) → frames_of path.spans ≤ 36000
    → PathEmits job n path video audio → HaveSizesOf job.region (frames_of path.spans) video audio
path_size job n path video audio few out =
    let w = start_of job n path in
    output_size job.region (frames_of path.spans) few w video audio
    (nothing_emitted job.region (frames_of path.spans) few w refl refl refl refl refl refl refl) out
