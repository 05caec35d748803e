-- Bytes that are handed out on the way, and the end of a path.
use Rattle.std.proofs.Common.{◌≡◌, ℕ, ◌≤◌, List, [], ◌++◌, ap, sym, ◌∙◌, subst, arith}
use Rattle.std.proofs.lemmas.List.{append-nil}
use Rattle.snes_defs.specs.declared.cart.Job.{Job}
use Rattle.snes_defs.specs.declared.ports.Side.{Side}
use Rattle.snes_defs.specs.declared.ports.Side.TheVariants.{Console, Sound}
use Rattle.side_law.specs.SerialRun.{IsPast}
use Rattle.side_law.proofs.SerialRuns.{run_is_over}
use Rattle.serial_console.specs.Lead.{IsLead, IsLed}
use Rattle.console_steps.specs.ConsoleState.{console_moves}
use Rattle.console_machine.specs.Side as console_side
use Rattle.console_machine.specs.AfterStep.{stamp_stands as console_stamp}
use Rattle.audio_side.specs.Sound.{sound_moves}
use Rattle.audio_side.specs.Clock.{stamp_now}
use Rattle.audio_side.specs.Sound as sound_side
use Rattle.audio_side.specs.SoundLaws.{stamp_stands as sound_stamp}
use Rattle.snapshot.specs.declared.run.Run.{Run}
use Rattle.snapshot.specs.declared.rewind.Rewind.{Rewind}
use Rattle.plan_drive.specs.Paths.{Path, Paths}
use Rattle.snapshot.specs.Path.{start_of, end_of_path}
use Rattle.snapshot.specs.Positions.{IsRested, IsGoing, IsBeyond}
use Rattle.side_law.specs.SerialRun.{IsOutput}
use Rattle.run_drive.specs.Run.{TookFirst}
use Rattle.snapshot.specs.Path.{console_of_path, sound_of_path}
use Rattle.run_drive.specs.Driven.{Since, TookOn, by_side}
use Rattle.snapshot.specs.Handed.{Gave, GaveSome}
use Rattle.snapshot.proofs.Arrives.{lead_arrives}

-- a path that has come to its end, and of which no byte waits
pub arrived : (job : Job) (n : ℕ) (paths : Paths) (before : Path) (video audio : List ℕ) (r : Rewind)
    → r.run.end ≤ r.run.serial.console.stamp → r.run.end ≤ stamp_now r.run.serial.sound.clock
    → r.run.serial.console.waiting ≡ [] → r.run.serial.sound.waiting ≡ []
    → IsGoing job n paths before video audio r → IsRested job n paths r × IsBeyond job n before paths.path video audio
arrived job n paths before video audio r console sound no_video no_audio h =
    let end = end_of_path job.region paths.path in
    let from = start_of job n paths.path in
    let at = h.led.at in
    let console_is = console_stamp r.run.serial.console at.console h.led.stands.console in
    let sound_is = sound_stamp r.run.serial.sound at.sound h.led.stands.sound in
    let end_is = h.end_is in
    let past : IsPast console_moves sound_moves end at = record { console = omega (arith, console, console_is, end_is); sound = omega (arith, sound, sound_is, end_is) } in
    let v = h.first_video ++ video in
    let a = h.first_audio ++ audio in
    let lead = subst (λ x. IsLead console_moves sound_moves end from at x a) (ap (λ w. v ++ w) no_video ∙ append-nil v)
    (subst (λ x. IsLead console_moves sound_moves end from at (v ++ r.run.serial.console.waiting) x) (ap (λ w. a ++ w) no_audio ∙ append-nil a) h.led.lead) in
    let under = lead_arrives console_moves sound_moves end from at v a lead past in (
      record {
        now = (v, a, record { at = at; stands = h.led.stands; underway = under; past = past; no_video = no_video; no_audio = no_audio; end_is = h.end_is; few = h.few; room = h.room; reset_room = h.reset_room; rise = h.rise; in_order = h.in_order });
        slots = h.slots;
      },
      record { first_video = h.first_video; first_audio = h.first_audio; first = h.first; whole = run_is_over console_moves sound_moves from end at v a under past },
    )

-- ---- a whole span

-- nothing waited, and nothing waits
none_between : (f w more x : List ℕ) → w ≡ [] → x ≡ [] → ((f ++ []) ++ w) ++ more ≡ (f ++ more) ++ x
none_between f w more x was is =
    ap (λ v. v ++ more) (ap (λ v. (f ++ []) ++ v) was ∙ append-nil (f ++ []) ∙ append-nil f) ∙ sym (append-nil (f ++ more)) ∙ ap (λ v. (f ++ more) ++ v) (sym is)

none_more : (f w more : List ℕ) → w ≡ [] → ((f ++ []) ++ w) ++ more ≡ f ++ more
none_more f w more was = ap (λ v. v ++ more) (ap (λ v. (f ++ []) ++ v) was ∙ append-nil (f ++ []) ∙ append-nil f)

-- what had been emitted when the span began
abbrev pub emitted_of : (job : Job) (n : ℕ) (paths : Paths) (before : Path) (r : Rewind) → IsGoing job n paths before [] [] r → Side → List ℕ
emitted_of job n paths before r h = by_side ((h.first_video ++ []) ++ r.run.serial.console.waiting) ((h.first_audio ++ []) ++ r.run.serial.sound.waiting)

pub drove : (job : Job) (n : ℕ) (paths : Paths) (before : Path) (r : Rewind) (after : Run) (base : Side → List ℕ) (holds : Side → List ℕ → Type 0)
    → r.run.serial.console.waiting ≡ [] → r.run.serial.sound.waiting ≡ []
    → r.run.end ≤ after.serial.console.stamp → r.run.end ≤ stamp_now after.serial.sound.clock → after.serial.console.waiting ≡ [] → after.serial.sound.waiting ≡ []
    → after.end ≡ r.run.end
    → (h : IsGoing job n paths before [] [] r)
    → TookOn console_moves sound_moves console_side.StandsAt sound_side.StandsAt (console_of_path job.region job.cart n paths.path) (sound_of_path job.region n paths.path.resets job.boot job.table) r.run.end after.serial (Since holds base (emitted_of job n paths before r h))
    → Gave job n paths before base holds (record { run = after; slots = r.slots })
drove job n paths before r after base holds no_video no_audio console sound none_video none_audio same h took =
    let (video, video_is, video_held) = took.video_taken in
    let (audio, audio_is, audio_held) = took.audio_taken in
    let new : Rewind = record { run = after; slots = r.slots } in
    let s = after.serial in
    let end = end_of_path job.region paths.path in
    let from = start_of job n paths.path in
    let going : IsGoing job n paths before video audio new = record {
      first_video = h.first_video;
      first_audio = h.first_audio;
      first = h.first;
      led = subst (λ v. IsLed console_moves sound_moves console_side.StandsAt sound_side.StandsAt end from s v ((h.first_audio ++ audio) ++ s.sound.waiting))
          (sym video_is ∙ none_between h.first_video r.run.serial.console.waiting video s.console.waiting no_video none_video)
          (subst (λ a. IsLed console_moves sound_moves console_side.StandsAt sound_side.StandsAt end from s took.video a)
          (sym audio_is ∙ none_between h.first_audio r.run.serial.sound.waiting audio s.sound.waiting no_audio none_audio)
          (subst (λ e. IsLed console_moves sound_moves console_side.StandsAt sound_side.StandsAt e from s took.video took.audio) h.end_is took.led));
      end_is = same ∙ h.end_is;
      few = h.few;
      room = h.room;
      reset_room = h.reset_room;
      rise = h.rise;
      in_order = h.in_order;
      slots = h.slots;
    } in
    let done = arrived job n paths before video audio new (omega (arith, console, same)) (omega (arith, sound, same)) none_video none_audio going in
    record { video = video; audio = audio; beyond = done.1; rested = done.0; video_taken = video_held; audio_taken = audio_held }

pub drove_some : (job : Job) (n : ℕ) (paths : Paths) (before : Path) (r : Rewind) (base : Side → List ℕ) (holds : Side → List ℕ → Type 0)
    → r.run.serial.console.waiting ≡ [] → r.run.serial.sound.waiting ≡ []
    → (h : IsGoing job n paths before [] [] r)
    → TookFirst console_moves sound_moves (console_of_path job.region job.cart n paths.path) (sound_of_path job.region n paths.path.resets job.boot job.table) r.run.end (Since holds base (emitted_of job n paths before r h))
    → GaveSome job n paths before base holds
drove_some job n paths before r base holds no_video no_audio h took =
    let (video, video_is, video_held) = took.video_taken in
    let (audio, audio_is, audio_held) = took.audio_taken in
    record {
      first_video = h.first_video;
      first_audio = h.first_audio;
      first = h.first;
      whole_video = took.video;
      whole_audio = took.audio;
      whole = subst (λ e. IsOutput console_moves sound_moves (start_of job n paths.path) e took.video took.audio) h.end_is took.output;
      video = video;
      video_count = took.video_count;
      video_is = sym (none_more h.first_video r.run.serial.console.waiting video no_video) ∙ video_is;
      video_taken = video_held;
      audio = audio;
      audio_count = took.audio_count;
      audio_is = sym (none_more h.first_audio r.run.serial.sound.waiting audio no_audio) ∙ audio_is;
      audio_taken = audio_held;
    }

-- where the run of a span stands as it begins
pub stands_led : (job : Job) (n : ℕ) (paths : Paths) (before : Path) (r : Rewind) (h : IsGoing job n paths before [] [] r)
    → IsLed console_moves sound_moves console_side.StandsAt sound_side.StandsAt r.run.end (start_of job n paths.path) r.run.serial (emitted_of job n paths before r h Console) (emitted_of job n paths before r h Sound)
stands_led job n paths before r h =
    subst (λ e. IsLed console_moves sound_moves console_side.StandsAt sound_side.StandsAt e (start_of job n paths.path) r.run.serial (emitted_of job n paths before r h Console) (emitted_of job n paths before r h Sound)) (sym h.end_is) h.led
