-- The run with its history is the run, and a pair on it that has come to the end has its output.
use Rattle.std.proofs.Common.{◌≡◌, ℕ, zero, suc, ◌+◌, ◌<◌, ◌≤◌, List, [], ◌++◌, refl, ap, sym, ◌∙◌, subst, ⊎_elim, arith}
use Rattle.std.specs.Prelude.{if◌then◌else◌}
use Rattle.std.proofs.lemmas.Bool.{cases_lt, cases_order}
use Rattle.std.proofs.lemmas.List.{append-nil}
use Rattle.snes_defs.specs.declared.region.Region.{Region}
use Rattle.snes_defs.specs.declared.ports.Side.TheVariants.{Console, Sound}
use Rattle.port_entries.proofs.Seen.{seen_le}
use Rattle.side_law.specs.Moves.{Moves, IsLawful}
use Rattle.side_law.specs.Serial.{SerialState, serial_of, turn, console_emits, sound_emits, console_got, sound_got}
use Rattle.side_law.specs.SerialRun.{after_turns, console_output, sound_output, IsPast, RunsFor, IsOutput}
use Rattle.commute_laws.specs.History.{History, history_of, recorded}
use Rattle.commute_laws.specs.OnRun.{serial_run, IsOnRun, IsOfRun, StaysBelow}
use Rattle.side_law.proofs.SerialKeeps.{TurnOf, by_console, by_sound, turn_of, turn_console, turn_sound, serving_at_first}
use Rattle.side_law.proofs.SerialRuns.{run_ends}
use Rattle.commute_laws.proofs.Later.{same_steps}
use Rattle.commute_laws.proofs.Sequences.{TurnAt, own_turn, other_turn}
use Rattle.commute_laws.proofs.HistoryRun.{console_turns, sound_turns}
use Rattle.commute_laws.proofs.OnRuns.{console_each, sound_each, console_below_next, sound_below_next}

module _ {C S : Type 0} (cm : Moves C) (sm : Moves S) where
  -- the serial machine without its histories
  plain : SerialState (History C) (History S) → SerialState C S
  plain w = record { console = w.console.now; sound = w.sound.now; to_sound = w.to_sound; to_console = w.to_console }

  -- what a turn of the recording machines does, apart from the histories and in them
  record Matches (w : SerialState (History C) (History S)) : Type 0 where
    state : plain (turn (recorded cm) (recorded sm) w) ≡ turn cm sm (plain w)
    video : (turn (recorded cm) (recorded sm) w).console.emitted ≡ w.console.emitted ++ console_emits cm sm (plain w)
    audio : (turn (recorded cm) (recorded sm) w).sound.emitted ≡ w.sound.emitted ++ sound_emits cm sm (plain w)
    steps : (turn (recorded cm) (recorded sm) w).console.steps + (turn (recorded cm) (recorded sm) w).sound.steps ≡ suc (w.console.steps + w.sound.steps)

  matches : (w : SerialState (History C) (History S)) → Matches w
  unfolding plain
  matches w = go (turn_of (recorded cm) (recorded sm) w)
    where
      go : TurnOf (recorded cm) (recorded sm) w → Matches w
      go (by_console le e) =
          let same = turn_console (recorded cm) (recorded sm) w e in
          record {
            state = ap plain same ∙ sym (turn_console cm sm (plain w) e);
            video = ap (λ (v : SerialState (History C) (History S)). v.console.emitted) same
                ∙ ap (λ t. w.console.emitted ++ (if t then cm.bytes w.console.now (console_got cm sm (plain w)) else [])) (sym e);
            audio = ap (λ (v : SerialState (History C) (History S)). v.sound.emitted) same ∙ sym (append-nil w.sound.emitted)
                ∙ ap (λ t. w.sound.emitted ++ (if t then [] else sm.bytes w.sound.now (sound_got cm sm (plain w)))) (sym e);
            steps = ap (λ (v : SerialState (History C) (History S)). v.console.steps + v.sound.steps) same ∙ omega arith;
          }
      go (by_sound lt e) =
          let same = turn_sound (recorded cm) (recorded sm) w e in
          record {
            state = ap plain same ∙ sym (turn_sound cm sm (plain w) e);
            video = ap (λ (v : SerialState (History C) (History S)). v.console.emitted) same ∙ sym (append-nil w.console.emitted)
                ∙ ap (λ t. w.console.emitted ++ (if t then cm.bytes w.console.now (console_got cm sm (plain w)) else [])) (sym e);
            audio = ap (λ (v : SerialState (History C) (History S)). v.sound.emitted) same
                ∙ ap (λ t. w.sound.emitted ++ (if t then [] else sm.bytes w.sound.now (sound_got cm sm (plain w)))) (sym e);
            steps = ap (λ (v : SerialState (History C) (History S)). v.console.steps + v.sound.steps) same ∙ omega arith;
          }

  record Tells (c0 : C) (s0 : S) (n : ℕ) : Type 0 where
    state : plain (serial_run cm sm c0 s0 n) ≡ after_turns cm sm (serial_of c0 s0) n
    video : (serial_run cm sm c0 s0 n).console.emitted ≡ console_output cm sm (serial_of c0 s0) n
    audio : (serial_run cm sm c0 s0 n).sound.emitted ≡ sound_output cm sm (serial_of c0 s0) n
    steps : (serial_run cm sm c0 s0 n).console.steps + (serial_run cm sm c0 s0 n).sound.steps ≡ n

  tells : (c0 : C) (s0 : S) (n : ℕ) → Tells c0 s0 n
  unfolding plain
  tells c0 s0 zero = record { state = refl; video = refl; audio = refl; steps = refl }
  tells c0 s0 (suc n) =
      let w : SerialState (History C) (History S) = serial_run cm sm c0 s0 n in
      let before = tells c0 s0 n in
      let m = matches w in
      record {
        state = m.state ∙ ap (turn cm sm) before.state;
        video = m.video ∙ ap (λ v. v ++ console_emits cm sm (plain w)) before.video
            ∙ ap (λ v. console_output cm sm (serial_of c0 s0) n ++ console_emits cm sm v) before.state;
        audio = m.audio ∙ ap (λ v. v ++ sound_emits cm sm (plain w)) before.audio
            ∙ ap (λ v. sound_output cm sm (serial_of c0 s0) n ++ sound_emits cm sm v) before.state;
        steps = m.steps ∙ ap suc before.steps;
      }

  pub of_run : (c0 : C) (s0 : S) (n : ℕ) → IsOfRun cm sm c0 s0 n
  unfolding plain
  of_run c0 s0 n =
      let t = tells c0 s0 n in
      record {
        console = ap (λ (v : SerialState C S). v.console) t.state;
        sound = ap (λ (v : SerialState C S). v.sound) t.state;
        video = t.video;
        audio = t.audio;
        turns = t.steps;
      }

module _ {C S : Type 0} (region : Region) (console_valid : C → Type 0) (sound_valid : S → Type 0) (console_most sound_most : ℕ)
    (cm : Moves C) (sm : Moves S)
    (console_lawful : IsLawful region console_valid console_most cm) (sound_lawful : IsLawful region sound_valid sound_most sm)
    (c0 : C) (s0 : S) (c0_valid : console_valid c0) (s0_valid : sound_valid s0) where
  here : (n : ℕ) → IsOnRun cm sm c0 s0 (serial_run cm sm c0 s0 n).console (serial_run cm sm c0 s0 n).sound
  here n = record { console_turns = n; console_is = refl; sound_turns = n; sound_is = refl }

  pub below_at_first : (end : ℕ) → StaysBelow cm sm c0 s0 end (history_of c0) (history_of s0)
  below_at_first end = record { console = λ n lt. absurd (omega arith); sound = λ n lt. absurd (omega arith) }

  -- up to the turn after which the run is past the end, no step is made at the end or later
  run_below : (end n : ℕ) → ((k : ℕ) → k < n → ¬ IsPast cm sm end (after_turns cm sm (serial_of c0 s0) k))
      → StaysBelow cm sm c0 s0 end (serial_run cm sm c0 s0 n).console (serial_run cm sm c0 s0 n).sound
  run_below end zero short = below_at_first end
  run_below end (suc n) short =
      go (console_turns region console_valid sound_valid console_most sound_most cm sm console_lawful sound_lawful c0 s0 c0_valid s0_valid n)
      (sound_turns region console_valid sound_valid console_most sound_most cm sm console_lawful sound_lawful c0 s0 c0_valid s0_valid n)
      (run_below end n (λ k lt. short k (omega arith)))
    where
      early : (end ≤ cm.stamp (serial_run cm sm c0 s0 n).console.now) → (end ≤ sm.stamp (serial_run cm sm c0 s0 n).sound.now) → ⊥
      early c s =
          let t = of_run cm sm c0 s0 n in
          short n (omega arith) (record {
            console = subst (λ q. end ≤ cm.stamp q) t.console c;
            sound = subst (λ q. end ≤ sm.stamp q) t.sound s;
          })

      go : TurnAt region Console cm sm (λ k. (serial_run cm sm c0 s0 k).console) (λ k. (serial_run cm sm c0 s0 k).sound) n
          → TurnAt region Sound sm cm (λ k. (serial_run cm sm c0 s0 k).sound) (λ k. (serial_run cm sm c0 s0 k).console) n
          → StaysBelow cm sm c0 s0 end (serial_run cm sm c0 s0 n).console (serial_run cm sm c0 s0 n).sound
          → StaysBelow cm sm c0 s0 end (serial_run cm sm c0 s0 (suc n)).console (serial_run cm sm c0 s0 (suc n)).sound
      go (own_turn first step advances same) other below =
          let le = seen_le Sound (cm.stamp (serial_run cm sm c0 s0 n).console.now) (sm.stamp (serial_run cm sm c0 s0 n).sound.now) first in
          let lt : cm.stamp (serial_run cm sm c0 s0 n).console.now < end =
          ⊎_elim (λ lt. lt) (λ ge. absurd (early ge (omega arith))) (cases_lt (cm.stamp (serial_run cm sm c0 s0 n).console.now) end) in
          subst (λ (q : History S). StaysBelow cm sm c0 s0 end (serial_run cm sm c0 s0 (suc n)).console q) (sym same)
          (console_below_next region console_valid sound_valid console_most sound_most cm sm console_lawful sound_lawful c0 s0 c0_valid s0_valid
          end (serial_run cm sm c0 s0 n).console (serial_run cm sm c0 s0 n).sound (here n) below lt
          (serial_run cm sm c0 s0 (suc n)).console advances.steps)
      go (other_turn first same advances) other below =
          let le = seen_le Console (sm.stamp (serial_run cm sm c0 s0 n).sound.now) (cm.stamp (serial_run cm sm c0 s0 n).console.now) first in
          let lt : sm.stamp (serial_run cm sm c0 s0 n).sound.now < end =
          ⊎_elim (λ lt. lt) (λ ge. absurd (early (omega arith) ge)) (cases_lt (sm.stamp (serial_run cm sm c0 s0 n).sound.now) end) in
          subst (λ (q : History C). StaysBelow cm sm c0 s0 end q (serial_run cm sm c0 s0 (suc n)).sound) (sym same)
          (sound_below_next region console_valid sound_valid console_most sound_most cm sm console_lawful sound_lawful c0 s0 c0_valid s0_valid
          end (serial_run cm sm c0 s0 n).console (serial_run cm sm c0 s0 n).sound (here n) below lt
          (serial_run cm sm c0 s0 (suc n)).sound advances.steps)

  -- a pair on the run that was stepped below the end alone, and has come to it, has the run's output
  pub done_is_output : (end : ℕ) (c : History C) (s : History S) → IsOnRun cm sm c0 s0 c s
      → StaysBelow cm sm c0 s0 end c s → end ≤ cm.stamp c.now → end ≤ sm.stamp s.now
      → IsOutput cm sm (serial_of c0 s0) end c.emitted s.emitted
  done_is_output end c s on below c_done s_done =
      go (run_ends region console_valid sound_valid console_most sound_most cm sm console_lawful sound_lawful (serial_of c0 s0) end
      (serving_at_first console_valid sound_valid c0 s0 c0_valid s0_valid))
    where
      at_end : (n : ℕ) → RunsFor cm sm (serial_of c0 s0) end n → IsOutput cm sm (serial_of c0 s0) end c.emitted s.emitted
      at_end n runs =
          let t = of_run cm sm c0 s0 n in
          let w : SerialState (History C) (History S) = serial_run cm sm c0 s0 n in
          let before = run_below end n runs.first in
          let console_past : end ≤ cm.stamp w.console.now = subst (λ q. end ≤ cm.stamp q) (sym t.console) runs.past.console in
          let sound_past : end ≤ sm.stamp w.sound.now = subst (λ q. end ≤ sm.stamp q) (sym t.sound) runs.past.sound in
          let console_steps : w.console.steps ≡ c.steps =
          ⊎_elim (λ e. e)
          (⊎_elim (λ lt. absurd (omega (arith, below.console n lt)))
          (λ lt. absurd (omega (
            arith,
            subst (λ (q : History C). cm.stamp q.now < end) on.console_is
                (before.console on.console_turns (subst (λ (q : History C). q.steps < w.console.steps) (sym on.console_is) lt)),
          ))))
          (cases_order w.console.steps c.steps) in
          let sound_steps : w.sound.steps ≡ s.steps =
          ⊎_elim (λ e. e)
          (⊎_elim (λ lt. absurd (omega (arith, below.sound n lt)))
          (λ lt. absurd (omega (
            arith,
            subst (λ (q : History S). sm.stamp q.now < end) on.sound_is
                (before.sound on.sound_turns (subst (λ (q : History S). q.steps < w.sound.steps) (sym on.sound_is) lt)),
          ))))
          (cases_order w.sound.steps s.steps) in
          let console_is : w.console ≡ c =
          same_steps region cm (λ k. (serial_run cm sm c0 s0 k).console)
          (console_each region console_valid sound_valid console_most sound_most cm sm console_lawful sound_lawful c0 s0 c0_valid s0_valid)
          n on.console_turns (console_steps ∙ ap (λ (q : History C). q.steps) (sym on.console_is))
          ∙ on.console_is in
          let sound_is : w.sound ≡ s =
          same_steps region sm (λ k. (serial_run cm sm c0 s0 k).sound)
          (sound_each region console_valid sound_valid console_most sound_most cm sm console_lawful sound_lawful c0 s0 c0_valid s0_valid)
          n on.sound_turns (sound_steps ∙ ap (λ (q : History S). q.steps) (sym on.sound_is))
          ∙ on.sound_is in
          record {
            turns = n;
            runs = runs;
            video_is = sym t.video ∙ ap (λ (q : History C). q.emitted) console_is;
            audio_is = sym t.audio ∙ ap (λ (q : History S). q.emitted) sound_is;
          }

      go : (video : List ℕ) × (audio : List ℕ) × IsOutput cm sm (serial_of c0 s0) end video audio
          → IsOutput cm sm (serial_of c0 s0) end c.emitted s.emitted
      go out = at_end out.2.turns out.2.runs
