-- The machines of a job at its start are those of the empty path.
use Rattle.std.proofs.Common.{◌≡◌, ℕ, ◌+◌, List, [], ◌∷◌, length, max, refl, ap, ◌∙◌, subst, arith}
use Rattle.snes_defs.specs.declared.cart.Job.{Job}
use Rattle.snes_defs.specs.declared.profile.Profile.TheVariants.{First}
use Rattle.snes_defs.specs.Script.{Script}
use Rattle.side_law.specs.Serial.{serial_of}
use Rattle.side_law.proofs.SerialRuns.{run_begins}
use Rattle.serial_console.specs.Joined.{Joined}
use Rattle.serial_console.specs.Serial.{IsAt}
use Rattle.console_steps.specs.ConsoleState.{ConsoleState, console_start, console_moves}
use Rattle.console_machine.specs.Side.{ConsoleValue}
use Rattle.console_machine.specs.Side as console_side
use Rattle.console_machine.specs.Playing.{console_with_room}
use Rattle.audio_side.specs.Sound.{AudioValue, SoundState, sound_start, sound_moves}
use Rattle.audio_side.specs.Sound as sound_side
use Rattle.audio_side.specs.Clock.{Clock}
use Rattle.audio_side.specs.Playing.{sound_with_room}
use Rattle.plan_drive.specs.Paths.{empty_path, path_script}
use Rattle.snapshot.proofs.Resets.{no_frames}
use Rattle.snapshot.specs.Path.{start_of, end_of_path, console_of_path, sound_of_path}
use Rattle.snapshot.specs.Positions.{IsDone}

pub first_done : (job : Job) (spans : ℕ) (s : Joined ConsoleValue AudioValue) (old new : ConsoleValue) (sound sound_new : AudioValue)
    → job.script ≡ path_script job.region job.script.room empty_path
    → console_side.StandsAt old (console_start job.cart job.script job.region)
    → ((w : ConsoleState) → console_side.StandsAt old w → console_side.StandsAt new (console_with_room w (max old.rest.script.room (length old.rest.script.spans + spans))))
    → sound_side.StandsAt sound (sound_start job.region job.script.profile job.script.resets job.boot job.table)
    → ((m : SoundState) → sound_side.StandsAt sound m → sound_side.StandsAt sound_new (sound_with_room m (max sound.clock.room (max job.script.room spans))))
    → ((c : ConsoleState) (m : SoundState) → console_side.StandsAt new c → sound_side.StandsAt sound_new m → IsAt console_side.StandsAt sound_side.StandsAt s (serial_of c m))
    → s.console.waiting ≡ [] → s.sound.waiting ≡ []
    → IsDone job (max job.script.room spans) empty_path (record { serial = s; end = 0; stepped = 0 }) [] []
first_done job spans s old new sound sound_new script starts roomy sounds sound_roomy joins no_video no_audio =
    let n = max job.script.room spans in
    let old_script : old.rest.script ≡ job.script = ap (λ r. r.script) starts.at.rest in
    let room : max old.rest.script.room (length old.rest.script.spans + spans) ≡ n =
    ap (λ v. max v.room (length v.spans + spans)) old_script ∙ ap (λ v. max job.script.room (length v.spans + spans)) script ∙ ap (max job.script.room) (omega arith) in
    let console_state : (v : Script) → v ≡ path_script job.region job.script.room empty_path → console_with_room (console_start job.cart v job.region) n ≡ console_of_path job.region job.cart n empty_path =
    λ v e. ap (λ x. console_with_room (console_start job.cart x job.region) n) e in
    let console = subst (λ w. console_side.StandsAt new w) (console_state job.script script)
    (subst (λ m. console_side.StandsAt new (console_with_room (console_start job.cart job.script job.region) m)) room (roomy (console_start job.cart job.script job.region) starts)) in
    let no_room : max sound.clock.room n ≡ n = (let none = ap (λ (c : Clock). c.room) sounds.clock in omega (arith, none)) in
    let there = subst (λ k. sound_side.StandsAt sound_new (sound_with_room (sound_start job.region First [] job.boot job.table) k)) no_room
    (subst (λ m. sound_side.StandsAt sound_new (sound_with_room m (max sound.clock.room n))) (ap (λ (v : Script). sound_start job.region v.profile v.resets job.boot job.table) script)
    (sound_roomy (sound_start job.region job.script.profile job.script.resets job.boot job.table) sounds)) in
    record {
      at = start_of job n empty_path;
      stands = joins (console_of_path job.region job.cart n empty_path) (sound_of_path job.region n [] job.boot job.table) console there;
      underway = run_begins console_moves sound_moves (start_of job n empty_path) (end_of_path job.region empty_path);
      past = record { console = omega arith; sound = omega arith };
      no_video = no_video;
      no_audio = no_audio;
      end_is = omega arith;
      few = omega arith;
      room = omega arith;
      reset_room = omega arith;
      rise = tt;
      in_order = no_frames 36001;
    }
