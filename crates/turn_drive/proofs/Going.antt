-- A run by turns on its way, of which all that was emitted was taken.
use Rattle.std.proofs.Common.{◌≡◌, ℕ, suc, ◌+◌, add-one, ◌*◌, ◌≤◌, List, [], ◌++◌, length, take, refl, ap, sym, ◌∙◌, subst, arith}
use mathlib.Core.Logic.{∥∥₁_elim}
use Rattle.std.proofs.Math.Bridge.{le_prop}
use Rattle.snes_defs.specs.declared.region.Region.{Region}
use Rattle.snes_defs.specs.declared.ports.Side.{Side}
use Rattle.snes_defs.specs.declared.ports.Side.TheVariants.{Console, Sound}
use Rattle.side_law.specs.Moves.{Moves, IsLawful}
use Rattle.side_law.specs.Serial.{serial_of}
use Rattle.side_law.specs.SerialRun.{RunsFor}
use Rattle.side_law.proofs.SerialKeeps.{serving_at_first}
use Rattle.side_law.proofs.SerialRuns.{run_ends}
use Rattle.commute_laws.specs.History.{History, history_of}
use Rattle.commute_laws.specs.OnRun.{IsOnRun, StaysBelow}
use Rattle.commute_laws.proofs.ToTheEnd.{below_at_first, done_is_output}
use Rattle.commute_laws.proofs.FirstBytes.{emits_first}
use Rattle.port_wire.specs.Seen.{Half, Both}
use Rattle.pair_run.specs.declared.ends.LegEnd.{LegEnd}
use Rattle.pair_run.specs.declared.stepped.Stepped.{Stepped}
use Rattle.pair_run.specs.Turn.{HasTurned, StandsBy}
use Rattle.clock_ratio.specs.Stamp.{end_stamp_of}
use Rattle.run_laws.specs.TurnBound.{most_turns}
use Rattle.run_laws.proofs.RunBound.{run_bounded}
use Rattle.turn_drive.specs.Cycle.{StepsByCycle}
use Rattle.turn_drive.specs.Turns.{CameByTurns, HasMadeTurns}
use Rattle.run_drive.specs.Run.{Adds, AddsSome, TookRun, TookFirst}
use Rattle.run_drive.proofs.Running.{first_held}
use Rattle.turn_drive.proofs.Counted.{steps_below, steps_of_run}

one_more : (n : ℕ) → n + 1 ≡ suc n
one_more n = rw add-one refl

-- a bound that holds of whatever states two machines stand for, where each stands for some
pub bound_of : {C S : Type 0} (console_stands : C → Type 0) (sound_stands : S → Type 0) (a b : ℕ)
    → ∥ ((c : C) × console_stands c) ∥₁ → ∥ ((s : S) × sound_stands s) ∥₁
    → ((c : C) (s : S) → console_stands c → sound_stands s → a ≤ b) → a ≤ b
bound_of console_stands sound_stands a b console sound le =
    ∥∥₁_elim console le_prop (λ c. ∥∥₁_elim sound le_prop (λ s. le c.0 s.0 c.1 s.1))

-- what a turn emitted now waits, where nothing waited before it
emits_waiting : {State : Type 0} (stands : State → Type 0) (half : Half) (waited waits : List ℕ) (before after : History State)
    → StandsBy stands half waited waits before after → waited ≡ [] → before.emitted ++ waits ≡ after.emitted
emits_waiting stands half waited waits before after stands_by none =
    ap (λ l. before.emitted ++ l) (sym stands_by.waits_is ∙ ap (λ l. l ++ stands_by.emitted) none) ∙ stands_by.emitted_is

module _ {C S : Type 0} (cm : Moves C) (sm : Moves S) (c0 : C) (s0 : S) where
  -- turns have led from the start to a pair on the serial run that stays below a near end. The machines
  -- stand there, the entries are logged, all that was emitted was taken, and each turn made a step
  pub record IsGoing (near turns : ℕ) (console_stands : C → Type 0) (sound_stands : S → Type 0) (both : Both) (holds : Side → List ℕ → Type 0) : Type 0 where
    pub c : History C
    pub s : History S
    pub on : IsOnRun cm sm c0 s0 c s
    pub below : StaysBelow cm sm c0 s0 near c s
    pub console_now : console_stands c.now
    pub sound_now : sound_stands s.now
    pub console_entries : c.entries ≡ both.console.mine
    pub sound_entries : s.entries ≡ both.sound.mine
    pub video_taken : holds Console c.emitted
    pub audio_taken : holds Sound s.emitted
    pub turns_stepped : turns ≤ c.steps + s.steps
    pub came : CameByTurns cm sm c0 s0 turns c s

  -- what stays below an end stays below a later one
  pub below_later : (near later : ℕ) (c : History C) (s : History S) → near ≤ later
      → StaysBelow cm sm c0 s0 near c s → StaysBelow cm sm c0 s0 later c s
  below_later near later c s le below = record {
    console = λ n fewer. omega (arith, le, below.console n fewer);
    sound = λ n fewer. omega (arith, le, below.sound n fewer);
  }

  pub going_nearer : (near later turns : ℕ) (console_stands : C → Type 0) (sound_stands : S → Type 0) (both : Both) (holds : Side → List ℕ → Type 0)
      → near ≤ later → IsGoing near turns console_stands sound_stands both holds → IsGoing later turns console_stands sound_stands both holds
  going_nearer near later turns console_stands sound_stands both holds le going = record {
    c = going.c;
    s = going.s;
    on = going.on;
    below = below_later near later going.c going.s le going.below;
    console_now = going.console_now;
    sound_now = going.sound_now;
    console_entries = going.console_entries;
    sound_entries = going.sound_entries;
    video_taken = going.video_taken;
    audio_taken = going.audio_taken;
    turns_stepped = going.turns_stepped;
    came = going.came;
  }

  -- no more turns than the serial run has
  pub going_is_short : (near end turns n : ℕ) (console_stands : C → Type 0) (sound_stands : S → Type 0) (both : Both) (holds : Side → List ℕ → Type 0)
      → near ≤ end → IsGoing near turns console_stands sound_stands both holds → RunsFor cm sm (serial_of c0 s0) end n → turns ≤ n
  going_is_short near end turns n console_stands sound_stands both holds le going runs =
      omega (
        arith,
        going.turns_stepped,
        steps_of_run cm sm c0 s0 end n runs going.c going.s (below_later near end going.c going.s le going.below),
      )

module _ {C S : Type 0} (region : Region) (console_valid : C → Type 0) (sound_valid : S → Type 0) (console_most sound_most : ℕ)
    (cm : Moves C) (sm : Moves S)
    (console_lawful : IsLawful region console_valid console_most cm) (sound_lawful : IsLawful region sound_valid sound_most sm)
    (c0 : C) (s0 : S) (c0_valid : console_valid c0) (s0_valid : sound_valid s0) where
  pub going_starts : (near : ℕ) (console_stands : C → Type 0) (sound_stands : S → Type 0) (both : Both) (holds : Side → List ℕ → Type 0)
      → console_stands c0 → sound_stands s0 → both.console.mine ≡ [] → both.sound.mine ≡ [] → holds Console [] → holds Sound []
      → IsGoing cm sm c0 s0 near 0 console_stands sound_stands both holds
  going_starts near console_stands sound_stands both holds console sound no_console no_sound video audio = record {
    c = history_of c0;
    s = history_of s0;
    on = record { console_turns = 0; console_is = refl; sound_turns = 0; sound_is = refl };
    below = below_at_first region console_valid sound_valid console_most sound_most cm sm console_lawful sound_lawful c0 s0 c0_valid s0_valid near;
    console_now = console;
    sound_now = sound;
    console_entries = sym no_console;
    sound_entries = sym no_sound;
    video_taken = video;
    audio_taken = audio;
    turns_stepped = omega arith;
    came = (refl, refl);
  }

  module _ (near turns : ℕ) (console_stands console_turned : C → Type 0) (sound_stands sound_turned : S → Type 0) (both new : Both)
      (holds : Side → List ℕ → Type 0) (console_waited console_waits sound_waited sound_waits : List ℕ)
      (console_end sound_end : LegEnd) (stepped : Stepped)
      (going : IsGoing cm sm c0 s0 near turns console_stands sound_stands both holds)
      (turned : HasTurned cm sm c0 s0 near console_turned sound_turned both new console_waited console_waits sound_waited sound_waits console_end sound_end stepped going.c going.s) where
    -- a turn can be made only so often
    pub turns_are_few : turns + 1 ≤ 2 * near
    turns_are_few =
        omega (
          arith,
          going.turns_stepped,
          turned.further,
          steps_below region console_valid sound_valid console_most sound_most cm sm console_lawful sound_lawful c0 s0 c0_valid s0_valid
              near turned.after_c turned.after_s turned.on (turned.below going.below),
        )

    module _ (later : Side → List ℕ → Type 0) (no_console : console_waited ≡ []) (no_sound : sound_waited ≡ []) where
      -- a turn whose bytes were all taken
      pub going_on : (console_after : C → Type 0) (sound_after : S → Type 0) → ((m : C) → console_turned m → console_after m) → ((m : S) → sound_turned m → sound_after m)
          → Adds (holds Console) (later Console) console_waits → Adds (holds Sound) (later Sound) sound_waits
          → IsGoing cm sm c0 s0 near (turns + 1) console_after sound_after new later
      going_on console_after sound_after console_same sound_same video audio = record {
        c = turned.after_c;
        s = turned.after_s;
        on = turned.on;
        below = turned.below going.below;
        console_now = console_same turned.after_c.now turned.console.now_stands;
        sound_now = sound_same turned.after_s.now turned.sound.now_stands;
        console_entries = turned.console.entries;
        sound_entries = turned.sound.entries;
        video_taken = subst (later Console) (emits_waiting console_turned new.console console_waited console_waits going.c turned.after_c turned.console no_console)
            (video going.c.emitted going.video_taken);
        audio_taken = subst (later Sound) (emits_waiting sound_turned new.sound sound_waited sound_waits going.s turned.after_s turned.sound no_sound)
            (audio going.s.emitted going.audio_taken);
        turns_stepped = omega (arith, going.turns_stepped, turned.further);
        came = subst (λ n. CameByTurns cm sm c0 s0 n turned.after_c turned.after_s) (sym (one_more turns)) (
          going.c,
          going.s,
          going.came,
          record {
            near = near;
            leg_c = turned.leg_c;
            leg_s = turned.leg_s;
            legs = turned.legs_are;
            stepped = stepped;
            stepped_is = turned.stepped_is;
            further = turned.further;
          },
        );
      }

      -- a turn of whose bytes some were taken
      pub going_stops : (end : ℕ) → near ≤ end → AddsSome (holds Console) (later Console) console_waits → AddsSome (holds Sound) (later Sound) sound_waits
          → TookFirst cm sm c0 s0 end later
      going_stops end le some_video some_audio =
          let out = run_ends region console_valid sound_valid console_most sound_most cm sm console_lawful sound_lawful (serial_of c0 s0) end
          (serving_at_first console_valid sound_valid c0 s0 c0_valid s0_valid) in
          let begins = emits_first region console_valid sound_valid console_most sound_most cm sm console_lawful sound_lawful c0 s0 c0_valid s0_valid
          end turned.after_c turned.after_s turned.on
          (below_later cm sm c0 s0 near end turned.after_c turned.after_s le (turned.below going.below)) out.0 out.1 out.2 in
          let video = some_video going.c.emitted going.video_taken in
          let audio = some_audio going.s.emitted going.audio_taken in
          record {
            video = out.0;
            audio = out.1;
            output = out.2;
            video_count = length (going.c.emitted ++ take video.0 console_waits);
            video_taken = first_held (later Console) going.c.emitted console_waits begins.0.0 out.0 video.0
                (ap (λ l. l ++ begins.0.0) (emits_waiting console_turned new.console console_waited console_waits going.c turned.after_c turned.console no_console) ∙ begins.0.1) video.1;
            audio_count = length (going.s.emitted ++ take audio.0 sound_waits);
            audio_taken = first_held (later Sound) going.s.emitted sound_waits begins.1.0 out.1 audio.0
                (ap (λ l. l ++ begins.1.0) (emits_waiting sound_turned new.sound sound_waited sound_waits going.s turned.after_s turned.sound no_sound) ∙ begins.1.1) audio.1;
          }

  -- turns to the end of so many frames are at most those of the serial run
  pub going_is_bounded : (by_a_cycle : StepsByCycle region sound_valid sm) (near end turns frames : ℕ) (console_stands : C → Type 0) (sound_stands : S → Type 0) (both : Both)
      (holds : Side → List ℕ → Type 0) → near ≤ end → IsGoing cm sm c0 s0 near turns console_stands sound_stands both holds
      → cm.stamp c0 ≡ 0 → sm.stamp s0 ≡ 0 → end ≡ end_stamp_of region frames → turns ≤ most_turns region frames
  going_is_bounded by_a_cycle near end turns frames console_stands sound_stands both holds le going console_first sound_first e =
      let out = run_ends region console_valid sound_valid console_most sound_most cm sm console_lawful sound_lawful (serial_of c0 s0) end
      (serving_at_first console_valid sound_valid c0 s0 c0_valid s0_valid) in
      omega (
        arith,
        going_is_short cm sm c0 s0 near end turns out.2.turns console_stands sound_stands both holds le going out.2.runs,
        run_bounded region console_valid sound_valid console_most sound_most cm sm console_lawful sound_lawful by_a_cycle c0 s0 c0_valid s0_valid
            frames out.2.turns (subst (λ at. RunsFor cm sm (serial_of c0 s0) at out.2.turns) e out.2.runs),
      )

  -- the turns of a run that has come to its end
  pub going_is_made : (near end turns : ℕ) (console_stands : C → Type 0) (sound_stands : S → Type 0) (both : Both) (holds : Side → List ℕ → Type 0)
      → (going : IsGoing cm sm c0 s0 near turns console_stands sound_stands both holds)
      → end ≤ cm.stamp going.c.now → end ≤ sm.stamp going.s.now → HasMadeTurns cm sm c0 s0 end turns holds
  going_is_made near end turns console_stands sound_stands both holds going console_done sound_done = record {
    c = going.c;
    s = going.s;
    came = going.came;
    console_done = console_done;
    sound_done = sound_done;
    video_held = going.video_taken;
    audio_held = going.audio_taken;
  }

  -- a run that has come to its end
  pub going_is_whole : (near end turns : ℕ) (console_stands : C → Type 0) (sound_stands : S → Type 0) (both : Both) (holds : Side → List ℕ → Type 0)
      → near ≤ end → (going : IsGoing cm sm c0 s0 near turns console_stands sound_stands both holds)
      → end ≤ cm.stamp going.c.now → end ≤ sm.stamp going.s.now → TookRun cm sm c0 s0 end holds
  going_is_whole near end turns console_stands sound_stands both holds le going console_done sound_done = record {
    video = going.c.emitted;
    audio = going.s.emitted;
    output = done_is_output region console_valid sound_valid console_most sound_most cm sm console_lawful sound_lawful c0 s0 c0_valid s0_valid
        end going.c going.s going.on (below_later cm sm c0 s0 near end going.c going.s le going.below) console_done sound_done;
    video_taken = going.video_taken;
    audio_taken = going.audio_taken;
  }
