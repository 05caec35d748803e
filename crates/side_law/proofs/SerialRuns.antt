-- Runs of the serial console: one turn more, the end, and that each run comes to its end.
use Rattle.std.proofs.Common.{◌≡◌, ℕ, zero, suc, ◌+◌, ◌-◌, ◌<◌, ◌≤◌, List, [], ◌++◌, refl, ap, sym, ◌∙◌, subst, inl, inr, ⊎_elim, arith}
use Rattle.std.specs.Prelude.{◌⊎◌}
use Rattle.std.proofs.lemmas.Bool.{cases_lt, cases_order}
use Rattle.std.proofs.lemmas.List.{append-nil}
use Rattle.std.proofs.Common.{append_assoc}
use Rattle.snes_defs.specs.declared.region.Region.{Region}
use Rattle.clock_ratio.proofs.Numbers.{numbers}
use Rattle.side_law.specs.Moves.{Moves, IsLawful}
use Rattle.side_law.specs.Serial.{SerialState, turn, console_emits, sound_emits}
use Rattle.side_law.specs.SerialRun.{after_turns, console_output, sound_output, IsPast, RunsFor, IsOutput, IsUnderway}
use Rattle.side_law.proofs.SerialKeeps.{IsServing, TurnOf, by_console, by_sound, turn_of, turn_console, turn_sound, turn_serves, console_step_rises, sound_step_rises}

module _ {C S : Type 0} (console_moves : Moves C) (sound_moves : Moves S) where
  -- a run begins
  pub run_begins : (w : SerialState C S) (end : ℕ) → IsUnderway console_moves sound_moves w end w [] []
  run_begins w end = record {
    turns = 0;
    now_is = refl;
    not_past = λ k h. absurd (omega arith);
    video_is = refl;
    audio_is = refl;
  }

  -- one turn more appends exactly the bytes of that turn
  pub run_goes_on : (w : SerialState C S) (end : ℕ) (now : SerialState C S) (video audio : List ℕ)
      → IsUnderway console_moves sound_moves w end now video audio
      → ¬ IsPast console_moves sound_moves end now
      → IsUnderway console_moves sound_moves w end (turn console_moves sound_moves now)
      (video ++ console_emits console_moves sound_moves now) (audio ++ sound_emits console_moves sound_moves now)
  run_goes_on w end now video audio h short = record {
    turns = suc h.turns;
    now_is = ap (turn console_moves sound_moves) h.now_is;
    not_past = λ k lt. ⊎_elim (h.not_past k) (here k lt) (cases_lt k h.turns);
    video_is = ap (λ v. v ++ console_emits console_moves sound_moves (after_turns console_moves sound_moves w h.turns)) h.video_is
        ∙ ap (λ n. video ++ console_emits console_moves sound_moves n) h.now_is;
    audio_is = ap (λ v. v ++ sound_emits console_moves sound_moves (after_turns console_moves sound_moves w h.turns)) h.audio_is
        ∙ ap (λ n. audio ++ sound_emits console_moves sound_moves n) h.now_is;
  }
    where
      here : (k : ℕ) → k < suc h.turns → h.turns ≤ k → ¬ IsPast console_moves sound_moves end (after_turns console_moves sound_moves w k)
      here k lt le past =
          let e : k ≡ h.turns = omega arith in
          short (subst (IsPast console_moves sound_moves end) (ap (after_turns console_moves sound_moves w) e ∙ h.now_is) past)

  -- a run that is past the end is the run, and what it has emitted is the output
  pub run_is_over : (w : SerialState C S) (end : ℕ) (now : SerialState C S) (video audio : List ℕ)
      → IsUnderway console_moves sound_moves w end now video audio
      → IsPast console_moves sound_moves end now
      → IsOutput console_moves sound_moves w end video audio
  run_is_over w end now video audio h past = record {
    turns = h.turns;
    runs = record { past = subst (IsPast console_moves sound_moves end) (sym h.now_is) past; first = h.not_past };
    video_is = h.video_is;
    audio_is = h.audio_is;
  }

  -- a run has one number of turns
  pub same_turns : (w : SerialState C S) (end n m : ℕ) → RunsFor console_moves sound_moves w end n
      → RunsFor console_moves sound_moves w end m → n ≡ m
  same_turns w end n m h k =
      ⊎_elim (λ e. e) (⊎_elim (λ lt. absurd (k.first n lt h.past)) (λ lt. absurd (h.first m lt k.past))) (cases_order n m)

  -- and one output
  pub same_output : (w : SerialState C S) (end : ℕ) (video audio more_video more_audio : List ℕ)
      → IsOutput console_moves sound_moves w end video audio
      → IsOutput console_moves sound_moves w end more_video more_audio
      → (video ≡ more_video) × (audio ≡ more_audio)
  same_output w end video audio more_video more_audio h k =
      let e : h.turns ≡ k.turns = same_turns w end h.turns k.turns h.runs k.runs in (
        sym h.video_is ∙ ap (console_output console_moves sound_moves w) e ∙ k.video_is,
        sym h.audio_is ∙ ap (sound_output console_moves sound_moves w) e ∙ k.audio_is,
      )

  -- what fewer turns emit is a beginning of what more turns emit
  longer : (a rest b c : List ℕ) → a ++ rest ≡ b → a ++ (rest ++ c) ≡ b ++ c
  longer a rest b c e = sym (append_assoc a rest c) ∙ ap (λ v. v ++ c) e

  pub console_output_later : (w : SerialState C S) (n d : ℕ)
      → (rest : List ℕ) × (console_output console_moves sound_moves w n ++ rest ≡ console_output console_moves sound_moves w (d + n))
  console_output_later w n zero =
      let e : n ≡ 0 + n = omega arith in
      ([], append-nil _ ∙ ap (console_output console_moves sound_moves w) e)
  console_output_later w n (suc d) =
      let p = console_output_later w n d in
      let e : suc (d + n) ≡ suc d + n = omega arith in (
        p.0 ++ console_emits console_moves sound_moves (after_turns console_moves sound_moves w (d + n)),
        longer (console_output console_moves sound_moves w n) p.0 (console_output console_moves sound_moves w (d + n)) (console_emits console_moves sound_moves (after_turns console_moves sound_moves w (d + n))) p.1
            ∙ ap (console_output console_moves sound_moves w) e,
      )

  pub sound_output_later : (w : SerialState C S) (n d : ℕ)
      → (rest : List ℕ) × (sound_output console_moves sound_moves w n ++ rest ≡ sound_output console_moves sound_moves w (d + n))
  sound_output_later w n zero =
      let e : n ≡ 0 + n = omega arith in
      ([], append-nil _ ∙ ap (sound_output console_moves sound_moves w) e)
  sound_output_later w n (suc d) =
      let p = sound_output_later w n d in
      let e : suc (d + n) ≡ suc d + n = omega arith in (
        p.0 ++ sound_emits console_moves sound_moves (after_turns console_moves sound_moves w (d + n)),
        longer (sound_output console_moves sound_moves w n) p.0 (sound_output console_moves sound_moves w (d + n)) (sound_emits console_moves sound_moves (after_turns console_moves sound_moves w (d + n))) p.1
            ∙ ap (sound_output console_moves sound_moves w) e,
      )

  -- what a run has emitted on its way is a beginning of its output
  pub output_begins : (w : SerialState C S) (end : ℕ) (now : SerialState C S) (video audio all_video all_audio : List ℕ)
      → IsUnderway console_moves sound_moves w end now video audio
      → IsOutput console_moves sound_moves w end all_video all_audio
      → ((rest : List ℕ) × (video ++ rest ≡ all_video)) × ((rest : List ℕ) × (audio ++ rest ≡ all_audio))
  output_begins w end now video audio all_video all_audio h k =
      let le : h.turns ≤ k.turns = ⊎_elim (λ lt. absurd (h.not_past k.turns lt k.runs.past)) (λ le. le) (cases_lt k.turns h.turns) in
      let e : (k.turns - h.turns) + h.turns ≡ k.turns = omega arith in
      let v = console_output_later w h.turns (k.turns - h.turns) in
      let a = sound_output_later w h.turns (k.turns - h.turns) in (
        (v.0, ap (λ x. x ++ v.0) (sym h.video_is) ∙ v.1 ∙ ap (console_output console_moves sound_moves w) e ∙ k.video_is),
        (a.0, ap (λ x. x ++ a.0) (sym h.audio_is) ∙ a.1 ∙ ap (sound_output console_moves sound_moves w) e ∙ k.audio_is),
      )

module _ {C S : Type 0} (region : Region) (console_valid : C → Type 0) (sound_valid : S → Type 0) (console_most sound_most : ℕ)
    (console_moves : Moves C) (sound_moves : Moves S)
    (console_lawful : IsLawful region console_valid console_most console_moves) (sound_lawful : IsLawful region sound_valid sound_most sound_moves) where
  -- whether a serial machine is past the end
  past_or_not : (w : SerialState C S) (end : ℕ)
      → IsPast console_moves sound_moves end w ⊎ ¬ IsPast console_moves sound_moves end w
  past_or_not w end =
      ⊎_elim (λ lt. inr (λ past. absurd (omega (arith, past.console))))
      (λ c. ⊎_elim (λ lt. inr (λ past. absurd (omega (arith, past.sound)))) (λ s. inl (record { console = c; sound = s }))
      (cases_lt (sound_moves.stamp w.sound) end))
      (cases_lt (console_moves.stamp w.console) end)

  -- how many stamps are left to the end, of both machines
  left : ℕ → SerialState C S → ℕ
  left end w = (end - console_moves.stamp w.console) + (end - sound_moves.stamp w.sound)

  -- each turn before the end leaves less
  less_left : (w : SerialState C S) (end : ℕ) → IsServing console_valid sound_valid w
      → ¬ IsPast console_moves sound_moves end w
      → left end (turn console_moves sound_moves w) < left end w
  unfolding left
  less_left w end h short = go (turn_of console_moves sound_moves w)
    where
      go : TurnOf console_moves sound_moves w → left end (turn console_moves sound_moves w) < left end w
      go (by_console le e) =
          subst (λ v. left end v < left end w) (sym (turn_console console_moves sound_moves w e))
          (⊎_elim (λ lt. let rises = console_step_rises region console_valid sound_valid console_most sound_most console_moves sound_moves console_lawful sound_lawful w h in omega (arith, (numbers region).rises))
          (λ c. absurd (short (record { console = c; sound = omega arith })))
          (cases_lt (console_moves.stamp w.console) end))
      go (by_sound lt e) =
          subst (λ v. left end v < left end w) (sym (turn_sound console_moves sound_moves w e))
          (⊎_elim (λ lt. let rises = sound_step_rises region console_valid sound_valid console_most sound_most console_moves sound_moves console_lawful sound_lawful w h in omega (arith, (numbers region).rises))
          (λ s. absurd (short (record { console = omega arith; sound = s })))
          (cases_lt (sound_moves.stamp w.sound) end))

  -- a run on its way comes to its end
  ends_within : (fuel : ℕ) (w : SerialState C S) (end : ℕ) (now : SerialState C S) (video audio : List ℕ)
      → IsUnderway console_moves sound_moves w end now video audio
      → IsServing console_valid sound_valid now → left end now < fuel
      → (all_video : List ℕ) × (all_audio : List ℕ) × IsOutput console_moves sound_moves w end all_video all_audio
  ends_within zero w end now video audio h serves small = absurd (omega arith)
  ends_within (suc fuel) w end now video audio h serves small =
      ⊎_elim (λ past. (video, audio, run_is_over console_moves sound_moves w end now video audio h past))
      (λ short. ends_within fuel w end (turn console_moves sound_moves now)
      (video ++ console_emits console_moves sound_moves now) (audio ++ sound_emits console_moves sound_moves now)
      (run_goes_on console_moves sound_moves w end now video audio h short)
      (turn_serves region console_valid sound_valid console_most sound_most console_moves sound_moves console_lawful sound_lawful now serves)
      (omega (arith, less_left now end serves short)))
      (past_or_not now end)

  -- each run has an output
  pub run_ends : (w : SerialState C S) (end : ℕ) → IsServing console_valid sound_valid w
      → (video : List ℕ) × (audio : List ℕ) × IsOutput console_moves sound_moves w end video audio
  run_ends w end serves =
      ends_within (suc (left end w)) w end w [] [] (run_begins console_moves sound_moves w end) serves (omega arith)
