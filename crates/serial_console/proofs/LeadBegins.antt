-- What two machines that are ahead of a serial console have emitted is a beginning of what its run emits.
use Rattle.std.proofs.Common.{◌≡◌, ℕ, zero, suc, ◌+◌, ◌-◌, ◌≤◌, List, [], ◌++◌, refl, ap, sym, ◌∙◌, subst, inl, inr, ⊎_elim, append_assoc, arith}
use Rattle.std.specs.Prelude.{◌⊎◌}
use Rattle.std.proofs.lemmas.Bool.{cases_lt}
use Rattle.std.proofs.lemmas.List.{append-nil}
use Rattle.side_law.specs.Moves.{Moves}
use Rattle.side_law.specs.Serial.{SerialState, got_of, turn, console_emits, sound_emits}
use Rattle.side_law.specs.SerialRun.{after_turns, console_output, sound_output, IsPast, IsOutput}
use Rattle.side_law.proofs.SerialKeeps.{TurnOf, by_console, by_sound, turn_of, turn_console, turn_sound}
use Rattle.serial_console.specs.Lead.{QuietSteps, IsLead}
use Rattle.serial_console.proofs.Lead.{at_end, console_gives, sound_gives, quiet_console_step, quiet_sound_step}

module _ {C S : Type 0} (cm : Moves C) (sm : Moves S) where
  -- more turns after some turns, and what both emit, one after the other
  turns_add : (w : SerialState C S) (n m : ℕ) → after_turns cm sm (after_turns cm sm w n) m ≡ after_turns cm sm w (m + n)
  turns_add w n zero = let e : n ≡ 0 + n = omega arith in ap (after_turns cm sm w) e
  turns_add w n (suc m) =
      let e : suc (m + n) ≡ suc m + n = omega arith in
      ap (turn cm sm) (turns_add w n m) ∙ ap (after_turns cm sm w) e

  joined : (a b c d e : List ℕ) → a ++ b ≡ c → d ≡ e → a ++ (b ++ d) ≡ c ++ e
  joined a b c d e first then = sym (append_assoc a b d) ∙ ap (λ v. v ++ d) first ∙ ap (λ v. c ++ v) then

  video_add : (w : SerialState C S) (n m : ℕ)
      → console_output cm sm w n ++ console_output cm sm (after_turns cm sm w n) m ≡ console_output cm sm w (m + n)
  video_add w n zero = let e : n ≡ 0 + n = omega arith in append-nil _ ∙ ap (console_output cm sm w) e
  video_add w n (suc m) =
      let e : suc (m + n) ≡ suc m + n = omega arith in
      joined _ _ _ _ _ (video_add w n m) (ap (console_emits cm sm) (turns_add w n m)) ∙ ap (console_output cm sm w) e

  audio_add : (w : SerialState C S) (n m : ℕ)
      → sound_output cm sm w n ++ sound_output cm sm (after_turns cm sm w n) m ≡ sound_output cm sm w (m + n)
  audio_add w n zero = let e : n ≡ 0 + n = omega arith in append-nil _ ∙ ap (sound_output cm sm w) e
  audio_add w n (suc m) =
      let e : suc (m + n) ≡ suc m + n = omega arith in
      joined _ _ _ _ _ (audio_add w n m) (ap (sound_emits cm sm) (turns_add w n m)) ∙ ap (sound_output cm sm w) e

  module _ (end : ℕ) (w : SerialState C S) where
    -- after some turns either all that the console emitted early is a beginning of what it emitted in them, or the
    -- turns have come to one of its early steps
    abbrev ConsoleCame : C → List ℕ → ℕ → Type 0
    ConsoleCame to early turns =
        ((rest : List ℕ) × (early ++ rest ≡ console_output cm sm w turns))
        ⊎ ((steps : ℕ) × (later : List ℕ) × (console_output cm sm w turns ++ later ≡ early) × QuietSteps cm end steps (after_turns cm sm w turns).console to later)

    console_came : (steps : ℕ) (to : C) (early : List ℕ) → QuietSteps cm end steps w.console to early → (turns : ℕ) → ConsoleCame to early turns
    console_came steps to early quiet zero = inr (steps, early, refl, quiet)
    console_came steps to early quiet (suc turns) = go (console_came steps to early quiet turns) (turn_of cm sm (after_turns cm sm w turns))
      where
        go : ConsoleCame to early turns → TurnOf cm sm (after_turns cm sm w turns) → ConsoleCame to early (suc turns)
        go (inl (rest, e)) any =
            inl (rest ++ console_emits cm sm (after_turns cm sm w turns), joined _ _ _ _ _ e refl)
        go (inr (zero, later, e, (same, none))) any =
            inl (
              console_emits cm sm (after_turns cm sm w turns),
              ap (λ v. v ++ console_emits cm sm (after_turns cm sm w turns)) (sym e ∙ ap (λ v. console_output cm sm w turns ++ v) none ∙ append-nil _),
            )
        go (inr (suc k, later, e, (act, before, up, (more, is, rest)))) (by_console le f) =
            let x = after_turns cm sm w turns in
            inr (
              k,
              more,
              ap (λ v. (console_output cm sm w turns ++ v) ++ more) ((console_gives cm sm end w x f).0 ∙ ap (λ a. cm.bytes x.console (got_of a x.to_console)) act)
                  ∙ append_assoc _ (cm.bytes x.console 0) more ∙ ap (λ v. console_output cm sm w turns ++ v) is ∙ e,
              subst (λ (y : SerialState C S). QuietSteps cm end k y.console to more) (sym (turn_console cm sm x f ∙ quiet_console_step cm sm end w x act)) rest,
            )
        go (inr (suc k, later, e, quiet)) (by_sound lt f) =
            let x = after_turns cm sm w turns in
            inr (
              suc k,
              later,
              ap (λ v. (console_output cm sm w turns ++ v) ++ later) (sound_gives cm sm end w x f).0
                  ∙ ap (λ v. v ++ later) (append-nil (console_output cm sm w turns)) ∙ e,
              subst (λ (y : SerialState C S). QuietSteps cm end (suc k) y.console to later) (sym (turn_sound cm sm x f)) quiet,
            )

    console_whole : (to : C) (early : List ℕ) (turns : ℕ) → IsPast cm sm end (after_turns cm sm w turns) → ConsoleCame to early turns
        → (rest : List ℕ) × (early ++ rest ≡ console_output cm sm w turns)
    console_whole to early turns past (inl begins) = begins
    console_whole to early turns past (inr (steps, later, e, quiet)) =
        let none = at_end cm sm end w cm steps _ _ later quiet past.console in
        ([], append-nil early ∙ sym e ∙ ap (λ v. console_output cm sm w turns ++ v) none ∙ append-nil _)

    abbrev SoundCame : S → List ℕ → ℕ → Type 0
    SoundCame to early turns =
        ((rest : List ℕ) × (early ++ rest ≡ sound_output cm sm w turns))
        ⊎ ((steps : ℕ) × (later : List ℕ) × (sound_output cm sm w turns ++ later ≡ early) × QuietSteps sm end steps (after_turns cm sm w turns).sound to later)

    sound_came : (steps : ℕ) (to : S) (early : List ℕ) → QuietSteps sm end steps w.sound to early → (turns : ℕ) → SoundCame to early turns
    sound_came steps to early quiet zero = inr (steps, early, refl, quiet)
    sound_came steps to early quiet (suc turns) = go (sound_came steps to early quiet turns) (turn_of cm sm (after_turns cm sm w turns))
      where
        go : SoundCame to early turns → TurnOf cm sm (after_turns cm sm w turns) → SoundCame to early (suc turns)
        go (inl (rest, e)) any =
            inl (rest ++ sound_emits cm sm (after_turns cm sm w turns), joined _ _ _ _ _ e refl)
        go (inr (zero, later, e, (same, none))) any =
            inl (
              sound_emits cm sm (after_turns cm sm w turns),
              ap (λ v. v ++ sound_emits cm sm (after_turns cm sm w turns)) (sym e ∙ ap (λ v. sound_output cm sm w turns ++ v) none ∙ append-nil _),
            )
        go (inr (suc k, later, e, (act, before, up, (more, is, rest)))) (by_sound lt f) =
            let x = after_turns cm sm w turns in
            inr (
              k,
              more,
              ap (λ v. (sound_output cm sm w turns ++ v) ++ more) ((sound_gives cm sm end w x f).1 ∙ ap (λ a. sm.bytes x.sound (got_of a x.to_sound)) act)
                  ∙ append_assoc _ (sm.bytes x.sound 0) more ∙ ap (λ v. sound_output cm sm w turns ++ v) is ∙ e,
              subst (λ (y : SerialState C S). QuietSteps sm end k y.sound to more) (sym (turn_sound cm sm x f ∙ quiet_sound_step cm sm end w x act)) rest,
            )
        go (inr (suc k, later, e, quiet)) (by_console le f) =
            let x = after_turns cm sm w turns in
            inr (
              suc k,
              later,
              ap (λ v. (sound_output cm sm w turns ++ v) ++ later) (console_gives cm sm end w x f).1
                  ∙ ap (λ v. v ++ later) (append-nil (sound_output cm sm w turns)) ∙ e,
              subst (λ (y : SerialState C S). QuietSteps sm end (suc k) y.sound to later) (sym (turn_console cm sm x f)) quiet,
            )

    sound_whole : (to : S) (early : List ℕ) (turns : ℕ) → IsPast cm sm end (after_turns cm sm w turns) → SoundCame to early turns
        → (rest : List ℕ) × (early ++ rest ≡ sound_output cm sm w turns)
    sound_whole to early turns past (inl begins) = begins
    sound_whole to early turns past (inr (steps, later, e, quiet)) =
        let none = at_end cm sm end w sm steps _ _ later quiet past.sound in
        ([], append-nil early ∙ sym e ∙ ap (λ v. sound_output cm sm w turns ++ v) none ∙ append-nil _)

  -- a beginning of what comes after a beginning
  after_that : (v early rest more all out : List ℕ) → v ++ early ≡ all → early ++ rest ≡ more → v ++ more ≡ out → all ++ rest ≡ out
  after_that v early rest more all out is begins whole =
      ap (λ x. x ++ rest) (sym is) ∙ append_assoc v early rest ∙ ap (λ x. v ++ x) begins ∙ whole

  -- what both have emitted is a beginning of the output of the run
  pub lead_begins : (end : ℕ) (from at : SerialState C S) (video audio all_video all_audio : List ℕ) → IsLead cm sm end from at video audio
      → IsOutput cm sm from end all_video all_audio
      → ((rest : List ℕ) × (video ++ rest ≡ all_video)) × ((rest : List ℕ) × (audio ++ rest ≡ all_audio))
  lead_begins end from at video audio all_video all_audio h out =
      let u = h.underway in
      let le : u.turns ≤ out.turns = ⊎_elim (λ lt. absurd (u.not_past out.turns lt out.runs.past)) (λ le. le) (cases_lt out.turns u.turns) in
      let d = out.turns - u.turns in
      let e : d + u.turns ≡ out.turns = omega arith in
      let there = ap (λ w. after_turns cm sm w d) (sym u.now_is) ∙ turns_add from u.turns d ∙ ap (after_turns cm sm from) e in
      let past = subst (IsPast cm sm end) (sym there) out.runs.past in
      let v = console_whole end h.turned at.console h.early_video d past (console_came end h.turned h.console.steps at.console h.early_video h.console.quiet d) in
      let a = sound_whole end h.turned at.sound h.early_audio d past (sound_came end h.turned h.sound.steps at.sound h.early_audio h.sound.quiet d) in
      let all_v = ap (λ x. x ++ console_output cm sm h.turned d) (sym u.video_is)
      ∙ ap (λ w. console_output cm sm from u.turns ++ console_output cm sm w d) (sym u.now_is)
      ∙ video_add from u.turns d ∙ ap (console_output cm sm from) e ∙ out.video_is in
      let all_a = ap (λ x. x ++ sound_output cm sm h.turned d) (sym u.audio_is)
      ∙ ap (λ w. sound_output cm sm from u.turns ++ sound_output cm sm w d) (sym u.now_is)
      ∙ audio_add from u.turns d ∙ ap (sound_output cm sm from) e ∙ out.audio_is in
      ((v.0, after_that h.turned_video h.early_video v.0 _ video all_video h.video_is v.1 all_v), (a.0, after_that h.turned_audio h.early_audio a.0 _ audio all_audio h.audio_is a.1 all_a))
