-- Bytes that are taken of a run from somewhere on.
use Rattle.std.proofs.Common.{◌≡◌, ◌≤◌, ℕ, List, [], ◌++◌, length, take, ap, sym, ◌∙◌, subst, append_assoc}
use Rattle.std.proofs.lemmas.List.{append-nil}
use Rattle.snes_defs.specs.declared.ports.Side.{Side}
use Rattle.snes_defs.specs.declared.ports.Side.TheVariants.{Console, Sound}
use Rattle.side_law.specs.Moves.{Moves}
use Rattle.side_law.specs.Serial.{serial_of}
use Rattle.serial_console.specs.Joined.{Joined}
use Rattle.serial_console.specs.Serial.{IsAt}
use Rattle.serial_console.specs.Lead.{IsLed}
use Rattle.serial_console.proofs.Lead.{lead_none}
use Rattle.serial_console.proofs.Led.{led_whole}
use Rattle.run_drive.specs.Run.{Adds, AddsSome, TookRun, TookFirst}
use Rattle.run_drive.proofs.Running.{IsRunning, nothing_waits}
use Rattle.run_drive.specs.Driven.{Since, TookOn}

module _ (now later : Side → List ℕ → Type 0) (base first : Side → List ℕ) (side : Side) where
  pub since_adds : (bytes : List ℕ) → Adds (now side) (later side) bytes → Adds (Since now base first side) (Since later base first side) bytes
  since_adds bytes add had (more, is, h) = (
    more ++ bytes,
    sym (append_assoc (first side) more bytes) ∙ ap (λ v. v ++ bytes) is,
    subst (later side) (append_assoc (base side) more bytes) (add (base side ++ more) h),
  )

  pub since_some : (bytes : List ℕ) → AddsSome (now side) (later side) bytes → AddsSome (Since now base first side) (Since later base first side) bytes
  since_some bytes add had (more, is, h) =
      let some = add (base side ++ more) h in (
        some.0,
        (
          more ++ take some.0 bytes,
          sym (append_assoc (first side) more (take some.0 bytes)) ∙ ap (λ v. v ++ take some.0 bytes) is,
          subst (later side) (append_assoc (base side) more (take some.0 bytes)) some.1,
        ),
      )

  pub since_other : ((had : List ℕ) → now side had → later side had) → (had : List ℕ) → Since now base first side had → Since later base first side had
  since_other stays had (more, is, h) = (more, is, stays (base side ++ more) h)

pub since_starts : (now : Side → List ℕ → Type 0) (base first : Side → List ℕ) (side : Side) → now side (base side) → Since now base first side (first side)
since_starts now base first side h = ([], append-nil (first side), subst (now side) (sym (append-nil (base side))) h)

module _ {C S CState SState : Type 0} (console_moves : Moves CState) (sound_moves : Moves SState) (console_stands : C → CState → Type 0) (sound_stands : S → SState → Type 0)
    (console_waiting : C → List ℕ) (sound_waiting : S → List ℕ) (end : ℕ) (c : CState) (s : SState) where
  -- a run that stands somewhere, and of which no byte waits
  pub drive_starts : (serial : Joined C S) (holds : Side → List ℕ → Type 0) (base first : Side → List ℕ)
      → IsLed console_moves sound_moves console_stands sound_stands end (serial_of c s) serial (first Console) (first Sound)
      → console_waiting serial.console ≡ [] → sound_waiting serial.sound ≡ []
      → holds Console (base Console) → holds Sound (base Sound)
      → IsRunning console_moves sound_moves console_stands sound_stands console_waiting sound_waiting end c s serial (Since holds base first)
  drive_starts serial holds base first led no_video no_audio video audio = record {
    video = first Console;
    audio = first Sound;
    led = subst (λ v. IsLed console_moves sound_moves console_stands sound_stands end (serial_of c s) serial v (first Sound ++ sound_waiting serial.sound))
        (sym (append-nil (first Console)) ∙ ap (λ v. first Console ++ v) (sym no_video))
        (subst (λ a. IsLed console_moves sound_moves console_stands sound_stands end (serial_of c s) serial (first Console) a)
        (sym (append-nil (first Sound)) ∙ ap (λ v. first Sound ++ v) (sym no_audio)) led);
    video_taken = since_starts holds base first Console video;
    audio_taken = since_starts holds base first Sound audio;
  }

  pub drive_is_whole : (console_stamp : C → ℕ) (sound_stamp : S → ℕ) (serial : Joined C S) (holds : Side → List ℕ → Type 0)
      → IsRunning console_moves sound_moves console_stands sound_stands console_waiting sound_waiting end c s serial holds
      → (end ≤ console_stamp serial.console) × (end ≤ sound_stamp serial.sound) × (length (console_waiting serial.console) ≡ 0) × (length (sound_waiting serial.sound) ≡ 0)
      → TookOn console_moves sound_moves console_stands sound_stands c s end serial holds
  drive_is_whole console_stamp sound_stamp serial holds r (console, sound, no_video_length, no_audio_length) =
      let no_video = nothing_waits (console_waiting serial.console) no_video_length in
      let no_audio = nothing_waits (sound_waiting serial.sound) no_audio_length in
      record {
        video = r.video;
        audio = r.audio;
        led = subst (λ v. IsLed console_moves sound_moves console_stands sound_stands end (serial_of c s) serial v r.audio)
            (ap (λ v. r.video ++ v) no_video ∙ append-nil r.video)
            (subst (λ a. IsLed console_moves sound_moves console_stands sound_stands end (serial_of c s) serial (r.video ++ console_waiting serial.console) a)
            (ap (λ v. r.audio ++ v) no_audio ∙ append-nil r.audio) r.led);
        video_taken = r.video_taken;
        audio_taken = r.audio_taken;
      }

-- nothing was taken or emitted before
abbrev pub no_bytes : Side → List ℕ
no_bytes side = []

since_none : (now : Side → List ℕ → Type 0) (side : Side) (bytes : List ℕ) → Since now no_bytes no_bytes side bytes → now side bytes
since_none now side bytes (more, is, h) = subst (now side) is h

module _ {C S CState SState : Type 0} (console_moves : Moves CState) (sound_moves : Moves SState) (console_stands : C → CState → Type 0) (sound_stands : S → SState → Type 0)
    (end : ℕ) (c : CState) (s : SState) where
  -- two machines at the start of a run
  pub led_starts : (serial : Joined C S) → IsAt console_stands sound_stands serial (serial_of c s) → IsLed console_moves sound_moves console_stands sound_stands end (serial_of c s) serial [] []
  led_starts serial stands = record { at = serial_of c s; stands = stands; lead = lead_none console_moves sound_moves end (serial_of c s) }

  -- a run from the start that has come to its end
  pub took_whole : (console_stamp : C → ℕ) (sound_stamp : S → ℕ)
      → ((x : C) (m : CState) → console_stands x m → console_moves.stamp m ≡ console_stamp x)
      → ((x : S) (m : SState) → sound_stands x m → sound_moves.stamp m ≡ sound_stamp x)
      → (serial : Joined C S) (now : Side → List ℕ → Type 0)
      → TookOn console_moves sound_moves console_stands sound_stands c s end serial (Since now no_bytes no_bytes)
      → end ≤ console_stamp serial.console → end ≤ sound_stamp serial.sound
      → TookRun console_moves sound_moves c s end now
  took_whole console_stamp sound_stamp console_law sound_law serial now t console sound = record {
    video = t.video;
    audio = t.audio;
    output = led_whole console_moves sound_moves console_stands sound_stands console_stamp sound_stamp console_law sound_law end (serial_of c s) serial _ _ t.led console sound;
    video_taken = since_none now Console t.video t.video_taken;
    audio_taken = since_none now Sound t.audio t.audio_taken;
  }

  -- the first bytes of a run from the start
  pub took_first : (now : Side → List ℕ → Type 0) → TookFirst console_moves sound_moves c s end (Since now no_bytes no_bytes) → TookFirst console_moves sound_moves c s end now
  took_first now t = record {
    video = t.video;
    audio = t.audio;
    output = t.output;
    video_count = t.video_count;
    video_taken = since_none now Console (take t.video_count t.video) t.video_taken;
    audio_count = t.audio_count;
    audio_taken = since_none now Sound (take t.audio_count t.audio) t.audio_taken;
  }
