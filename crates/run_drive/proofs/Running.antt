-- A run on its way, of which all that was emitted was taken.
use Rattle.std.proofs.Common.{◌≡◌, ℕ, List, [], ◌∷◌, ◌++◌, ◌≤◌, length, take, drop, refl, ap, sym, ◌∙◌, subst, append_assoc, arith}
use Rattle.std.proofs.lemmas.List.{append-nil, take-append-drop, take_all}
use Rattle.std.proofs.Math.Seq.{take-append_seam}
use Rattle.snes_defs.specs.declared.ports.Side.{Side}
use Rattle.snes_defs.specs.declared.ports.Side.TheVariants.{Console, Sound}
use Rattle.side_law.specs.Moves.{Moves}
use Rattle.side_law.specs.Serial.{serial_of}
use Rattle.side_law.specs.SerialRun.{IsOutput}
use Rattle.serial_console.specs.Joined.{Joined}
use Rattle.serial_console.specs.Lead.{IsLead, IsLed}
use Rattle.serial_console.proofs.LeadBegins.{lead_begins}
use Rattle.run_drive.specs.Run.{Adds, AddsSome, TookRun, TookFirst}

-- a beginning of a list is its first numbers
first_of : (a rest b : List ℕ) → a ++ rest ≡ b → take (length a) b ≡ a
first_of a rest b e = ap (take (length a)) (sym e) ∙ take-append_seam a rest

-- what was held, and the first of what came more, are a beginning of all
some_begins : (had more rest b : List ℕ) (count : ℕ) → (had ++ more) ++ rest ≡ b → (had ++ take count more) ++ (drop count more ++ rest) ≡ b
some_begins had more rest b count e =
    sym (append_assoc (had ++ take count more) (drop count more) rest)
    ∙ ap (λ v. v ++ rest) (append_assoc had (take count more) (drop count more) ∙ ap (λ v. had ++ v) (take-append-drop {A = ℕ} count more))
    ∙ e

pub first_held : (Holds : List ℕ → Type 0) (had more rest b : List ℕ) (count : ℕ) → (had ++ more) ++ rest ≡ b → Holds (had ++ take count more)
    → Holds (take (length (had ++ take count more)) b)
first_held Holds had more rest b count e h =
    subst Holds (sym (first_of (had ++ take count more) (drop count more ++ rest) b (some_begins had more rest b count e))) h

-- no number waits
pub nothing_waits : (a : List ℕ) → length a ≡ 0 → a ≡ []
nothing_waits [] none = refl
nothing_waits (x ∷ a) none = absurd (omega (arith, none))

-- nothing more of a side whose bytes stay
none_more : (Holds : List ℕ → Type 0) (had : List ℕ) → Holds had → Holds (had ++ [])
none_more Holds had h = subst Holds (sym (append-nil had)) h

module _ {C S CState SState : Type 0} (console_moves : Moves CState) (sound_moves : Moves SState) (console_stands : C → CState → Type 0) (sound_stands : S → SState → Type 0) (end : ℕ) (c : CState) (s : SState) where
  -- all bytes are the first ones
  pub whole_is_first : (holds : Side → List ℕ → Type 0) → TookRun console_moves sound_moves c s end holds → TookFirst console_moves sound_moves c s end holds
  whole_is_first holds h = record {
    video = h.video;
    audio = h.audio;
    output = h.output;
    video_count = length h.video;
    video_taken = subst (holds Console) (sym (take_all (length h.video) h.video (omega arith))) h.video_taken;
    audio_count = length h.audio;
    audio_taken = subst (holds Sound) (sym (take_all (length h.audio) h.audio (omega arith))) h.audio_taken;
  }

module _ {C S CState SState : Type 0} (console_moves : Moves CState) (sound_moves : Moves SState) (console_stands : C → CState → Type 0) (sound_stands : S → SState → Type 0)
    (console_waiting : C → List ℕ) (sound_waiting : S → List ℕ) (end : ℕ) (c : CState) (s : SState) where
  -- two machines that may be ahead of a serial console, of which all that was emitted was taken or waits
  pub record IsRunning (serial : Joined C S) (holds : Side → List ℕ → Type 0) : Type 0 where
    pub video : List ℕ
    pub audio : List ℕ
    pub led : IsLed console_moves sound_moves console_stands sound_stands end (serial_of c s) serial (video ++ console_waiting serial.console) (audio ++ sound_waiting serial.sound)
    pub video_taken : holds Console video
    pub audio_taken : holds Sound audio

  -- both sides have gone on, and nothing of it was taken yet
  pub run_leads : (before between after : Joined C S) (holds : Side → List ℕ → Type 0) → IsRunning before holds
      → ((video audio : List ℕ) → IsLed console_moves sound_moves console_stands sound_stands end (serial_of c s) before (video ++ console_waiting before.console) (audio ++ sound_waiting before.sound)
      → IsLed console_moves sound_moves console_stands sound_stands end (serial_of c s) between (video ++ console_waiting between.console) (audio ++ sound_waiting between.sound))
      → ((video audio : List ℕ) → IsLed console_moves sound_moves console_stands sound_stands end (serial_of c s) between video (audio ++ sound_waiting between.sound)
      → IsLed console_moves sound_moves console_stands sound_stands end (serial_of c s) after video (audio ++ sound_waiting after.sound))
      → after.console ≡ between.console → IsRunning after holds
  run_leads before between after holds r console sound console_stays = record {
    video = r.video;
    audio = r.audio;
    led = subst (λ x. IsLed console_moves sound_moves console_stands sound_stands end (serial_of c s) after (r.video ++ console_waiting x) (r.audio ++ sound_waiting after.sound)) (sym console_stays)
        (sound (r.video ++ console_waiting between.console) r.audio (console r.video r.audio r.led));
    video_taken = r.video_taken;
    audio_taken = r.audio_taken;
  }

  -- the output of the run
  abbrev pub Output : Type 0
  Output = (video : List ℕ) × (audio : List ℕ) × IsOutput console_moves sound_moves (serial_of c s) end video audio

  module _ (serial : Joined C S) (holds later : Side → List ℕ → Type 0) (r : IsRunning serial holds) where
    -- the console's bytes were taken
    pub console_taken : (lent after : C) → lent ≡ serial.console → ((m : CState) → console_stands lent m → console_stands after m)
        → console_waiting after ≡ [] → ((had : List ℕ) → holds Sound had → later Sound had)
        → Adds (holds Console) (later Console) (console_waiting lent)
        → IsRunning (record { console = after; sound = serial.sound; to_sound = serial.to_sound; to_console = serial.to_console }) later
    console_taken lent after is_lent same empty other adds =
        let w = r.led.at in
        record {
          video = r.video ++ console_waiting serial.console;
          audio = r.audio;
          led = record {
            at = w;
            stands = record {
              console = same w.console (subst (λ x. console_stands x w.console) (sym is_lent) r.led.stands.console);
              sound = r.led.stands.sound;
              to_sound = r.led.stands.to_sound;
              to_console = r.led.stands.to_console;
            };
            lead = subst (λ v. IsLead console_moves sound_moves end (serial_of c s) w v (r.audio ++ sound_waiting serial.sound))
                (sym (append-nil (r.video ++ console_waiting serial.console)) ∙ ap (λ v. (r.video ++ console_waiting serial.console) ++ v) (sym empty)) r.led.lead;
          };
          video_taken = subst (λ x. later Console (r.video ++ console_waiting x)) is_lent (adds r.video r.video_taken);
          audio_taken = other r.audio r.audio_taken;
        }

    pub sound_taken : (lent after : S) → lent ≡ serial.sound → ((m : SState) → sound_stands lent m → sound_stands after m)
        → sound_waiting after ≡ [] → ((had : List ℕ) → holds Console had → later Console had)
        → Adds (holds Sound) (later Sound) (sound_waiting lent)
        → IsRunning (record { console = serial.console; sound = after; to_sound = serial.to_sound; to_console = serial.to_console }) later
    sound_taken lent after is_lent same empty other adds =
        let w = r.led.at in
        record {
          video = r.video;
          audio = r.audio ++ sound_waiting serial.sound;
          led = record {
            at = w;
            stands = record {
              console = r.led.stands.console;
              sound = same w.sound (subst (λ x. sound_stands x w.sound) (sym is_lent) r.led.stands.sound);
              to_sound = r.led.stands.to_sound;
              to_console = r.led.stands.to_console;
            };
            lead = subst (λ a. IsLead console_moves sound_moves end (serial_of c s) w (r.video ++ console_waiting serial.console) a)
                (sym (append-nil (r.audio ++ sound_waiting serial.sound)) ∙ ap (λ a. (r.audio ++ sound_waiting serial.sound) ++ a) (sym empty)) r.led.lead;
          };
          video_taken = other r.video r.video_taken;
          audio_taken = subst (λ x. later Sound (r.audio ++ sound_waiting x)) is_lent (adds r.audio r.audio_taken);
        }

    -- some bytes of either side were not
    run_stops : (video_count audio_count : ℕ) → later Console (r.video ++ take video_count (console_waiting serial.console))
        → later Sound (r.audio ++ take audio_count (sound_waiting serial.sound)) → Output
        → TookFirst console_moves sound_moves c s end later
    run_stops video_count audio_count video audio (all_video, all_audio, output) =
        let begins = lead_begins console_moves sound_moves end (serial_of c s) r.led.at _ _ all_video all_audio r.led.lead output in
        record {
          video = all_video;
          audio = all_audio;
          output = output;
          video_count = length (r.video ++ take video_count (console_waiting serial.console));
          video_taken = first_held (later Console) r.video (console_waiting serial.console) begins.0.0 all_video video_count begins.0.1 video;
          audio_count = length (r.audio ++ take audio_count (sound_waiting serial.sound));
          audio_taken = first_held (later Sound) r.audio (sound_waiting serial.sound) begins.1.0 all_audio audio_count begins.1.1 audio;
        }

    pub console_failed : (lent : C) → lent ≡ serial.console → ((had : List ℕ) → holds Sound had → later Sound had)
        → AddsSome (holds Console) (later Console) (console_waiting lent) → Output → TookFirst console_moves sound_moves c s end later
    console_failed lent is_lent other some output =
        let now = subst (λ x. AddsSome (holds Console) (later Console) (console_waiting x)) is_lent some r.video r.video_taken in
        run_stops now.0 0 now.1 (none_more (later Sound) r.audio (other r.audio r.audio_taken)) output

    pub sound_failed : (lent : S) → lent ≡ serial.sound → ((had : List ℕ) → holds Console had → later Console had)
        → AddsSome (holds Sound) (later Sound) (sound_waiting lent) → Output → TookFirst console_moves sound_moves c s end later
    sound_failed lent is_lent other some output =
        let now = subst (λ x. AddsSome (holds Sound) (later Sound) (sound_waiting x)) is_lent some r.audio r.audio_taken in
        run_stops 0 now.0 (none_more (later Console) r.video (other r.video r.video_taken)) now.1 output
