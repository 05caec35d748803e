-- A path that goes on by a span, and steps on the way.
use Rattle.std.proofs.Common.{◌≡◌, ℕ, ◌+◌, ◌*◌, ◌<◌, ◌≤◌, List, [], ◌∷◌, ◌++◌, length, length-append, refl, ap, sym, ◌∙◌, subst, arith}
use Rattle.std.proofs.lemmas.List.{append-nil}
use Rattle.snes_defs.specs.declared.cart.Job.{Job}
use Rattle.snes_defs.specs.declared.script.Span.{Span}
use Rattle.snes_defs.specs.Script.{RiseWithin, frames_of}
use Rattle.clock_ratio.specs.Stamp.{frame_of, end_stamp_of}
use Rattle.side_law.specs.Moves.{Moves}
use Rattle.side_law.specs.Serial.{SerialState}
use Rattle.side_law.specs.SerialRun.{IsUnderway}
use Rattle.side_law.proofs.SerialRuns.{run_is_over}
use Rattle.serial_console.specs.Lead.{IsLead}
use Rattle.console_steps.specs.ConsoleState.{ConsoleState, console_moves}
use Rattle.console_machine.specs.Side.{ConsoleValue}
use Rattle.console_machine.specs.Side as console_side
use Rattle.console_machine.specs.Playing.{console_played}
use Rattle.audio_side.specs.Sound.{sound_moves}
use Rattle.snapshot.specs.declared.rewind.Rewind.{Rewind}
use Rattle.plan_drive.specs.Paths.{Path, Paths, gone}
use Rattle.snapshot.specs.Path.{start_of, end_of_path}
use Rattle.snapshot.specs.Positions.{IsRested, IsGoing}
use Rattle.snapshot.proofs.Runs.{goes_on, frames_more}
use Rattle.snapshot.proofs.Copying.{done_script, done_region}
use Rattle.snapshot.proofs.Resets.{rise_wider}

-- a run that has not gone ahead
lead_at : {C S : Type 0} (cm : Moves C) (sm : Moves S) (end : ℕ) (from at : SerialState C S) (video audio all_video all_audio : List ℕ)
    → IsUnderway cm sm from end at video audio → video ≡ all_video → audio ≡ all_audio → IsLead cm sm end from at all_video all_audio
lead_at cm sm end from at video audio all_video all_audio under v a = record {
  turned = at;
  turned_video = video;
  turned_audio = audio;
  underway = under;
  early_video = [];
  console = record { steps = 0; quiet = (refl, refl) };
  early_audio = [];
  sound = record { steps = 0; quiet = (refl, refl) };
  to_sound = refl;
  to_console = refl;
  video_is = append-nil video ∙ v;
  audio_is = append-nil audio ∙ a;
}

-- nothing more
still : (v w : List ℕ) → w ≡ [] → v ≡ (v ++ []) ++ w
still v w none = sym (append-nil v) ∙ sym (append-nil (v ++ [])) ∙ ap (λ x. (v ++ []) ++ x) (sym none)

pub begun : (job : Job) (n : ℕ) (paths : Paths) (r : Rewind) (span : Span) (x : ConsoleValue)
    → length r.run.serial.console.rest.script.spans < r.run.serial.console.rest.script.room → frames_of r.run.serial.console.rest.script.spans + span.count ≤ 36000
    → ((w : ConsoleState) → console_side.StandsAt r.run.serial.console w → console_side.StandsAt x (console_played w span)) → x.waiting ≡ r.run.serial.console.waiting
    → IsRested job n paths r
    → IsGoing job n (gone paths span) paths.path [] []
    (record { run = record { serial = record { console = x; sound = r.run.serial.sound; to_sound = r.run.serial.to_sound; to_console = r.run.serial.to_console }; end = r.run.end + frame_of r.run.serial.console.region * span.count; stepped = r.run.stepped }; slots = r.slots })
begun job n paths r span x room few stands waits h =
    let (video, audio, d) = h.now in
    let script = done_script job n paths.path r.run video audio d in
    let fits : frames_of paths.path.spans + span.count ≤ 36000 = subst (λ s. frames_of s.spans + span.count ≤ 36000) script few in
    let short : length paths.path.spans < n = subst (λ s. length s.spans < s.room) script room in
    let more = frames_more paths.path.spans span in
    let size = length-append paths.path.spans (span ∷ []) in
    let end = d.end_is in
    let later = ap (end_stamp_of job.region) more in
    record {
      first_video = video;
      first_audio = audio;
      first = run_is_over console_moves sound_moves (start_of job n paths.path) (end_of_path job.region paths.path) d.at video audio d.underway d.past;
      led = record {
        at = record d.at { console = console_played d.at.console span };
        stands = record { console = stands d.at.console d.stands.console; sound = d.stands.sound; to_sound = d.stands.to_sound; to_console = d.stands.to_console };
        lead = lead_at console_moves sound_moves (end_of_path job.region (gone paths span).path) (start_of job n (gone paths span).path) (record d.at { console = console_played d.at.console span }) video audio
            ((video ++ []) ++ x.waiting) ((audio ++ []) ++ r.run.serial.sound.waiting)
            (goes_on job n paths.path span d.at video audio fits d.underway d.past) (still video x.waiting (waits ∙ d.no_video)) (still audio r.run.serial.sound.waiting d.no_audio);
      };
      end_is = ap (λ g. r.run.end + frame_of g * span.count) (done_region job n paths.path r.run video audio d) ∙ omega (arith, end, later);
      few = omega (arith, more, fits);
      room = omega (arith, size, short);
      reset_room = d.reset_room;
      rise = subst (λ m. RiseWithin 1 m paths.path.resets) (sym more) (rise_wider 1 (frames_of paths.path.spans) span.count paths.path.resets d.rise);
      in_order = d.in_order;
      slots = h.slots;
    }
