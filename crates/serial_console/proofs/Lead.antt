-- How two machines that are some quiet steps ahead of a serial console go on, and what they have emitted.
use Rattle.std.proofs.Common.{◌≡◌, ℕ, zero, suc, ◌+◌, ◌<◌, ◌≤◌, true, false, List, [], ◌++◌, refl, ap, sym, ◌∙◌, subst, append_assoc, arith}
use Rattle.std.specs.Prelude.{if◌then◌else◌}
use Rattle.std.proofs.lemmas.List.{append-nil}
use Rattle.snes_defs.specs.declared.ports.Act.TheVariants.{Quiet}
use Rattle.side_law.specs.Moves.{Moves}
use Rattle.side_law.specs.Serial.{SerialState, got_of, incoming_after, outgoing_after, is_console_first, console_step, sound_step, turn, console_emits, sound_emits}
use Rattle.side_law.specs.SerialRun.{IsPast, IsOutput, IsUnderway}
use Rattle.side_law.proofs.SerialKeeps.{TurnOf, by_console, by_sound, turn_of, turn_console, turn_sound}
use Rattle.side_law.proofs.SerialRuns.{run_begins, run_goes_on, run_is_over}
use Rattle.serial_console.specs.Lead.{QuietSteps, IsAhead, IsLead}

-- one quiet step more
module _ {State : Type 0} (moves : Moves State) (end : ℕ) where
  quiet_on : (n : ℕ) (from to : State) (bytes : List ℕ) → QuietSteps moves end n from to bytes
      → moves.act to ≡ Quiet → moves.stamp to < end → moves.stamp to ≤ moves.stamp (moves.next to 0)
      → QuietSteps moves end (suc n) from (moves.next to 0) (bytes ++ moves.bytes to 0)
  quiet_on zero from to bytes (same, none) quiet before rises =
      subst (λ x. QuietSteps moves end 1 x (moves.next to 0) (bytes ++ moves.bytes to 0)) (sym same)
      (quiet, before, rises, ([], append-nil _ ∙ ap (λ v. v ++ moves.bytes to 0) (sym none), (refl, refl)))
  quiet_on (suc n) from to bytes (first, short, up, (later, joined, rest)) quiet before rises = (
    first,
    short,
    up,
    (
      later ++ moves.bytes to 0,
      sym (append_assoc (moves.bytes from 0) later (moves.bytes to 0)) ∙ ap (λ v. v ++ moves.bytes to 0) joined,
      quiet_on n (moves.next from 0) to later rest quiet before rises,
    ),
  )

  -- the stamp has not fallen
  pub quiet_rises : (n : ℕ) (from to : State) (bytes : List ℕ) → QuietSteps moves end n from to bytes → moves.stamp from ≤ moves.stamp to
  quiet_rises zero from to bytes (same, none) = subst (λ x. moves.stamp from ≤ moves.stamp x) same (omega arith)
  quiet_rises (suc n) from to bytes (first, short, up, (later, joined, rest)) =
      let more = quiet_rises n (moves.next from 0) to later rest in omega (arith, up, more)

  pub ahead_on : (from to : State) (bytes : List ℕ) → IsAhead moves end from to bytes
      → moves.act to ≡ Quiet → moves.stamp to < end → moves.stamp to ≤ moves.stamp (moves.next to 0)
      → IsAhead moves end from (moves.next to 0) (bytes ++ moves.bytes to 0)
  ahead_on from to bytes h quiet before rises = record { steps = suc h.steps; quiet = quiet_on h.steps from to bytes h.quiet quiet before rises }

  ahead_none : (from : State) → IsAhead moves end from from []
  ahead_none from = record { steps = 0; quiet = (refl, refl) }

module _ {C S : Type 0} (cm : Moves C) (sm : Moves S) (end : ℕ) (from : SerialState C S) where
  -- at the start no side is ahead
  pub lead_none : IsLead cm sm end from from [] []
  lead_none = record {
    turned = from;
    turned_video = [];
    turned_audio = [];
    underway = run_begins cm sm from end;
    early_video = [];
    console = ahead_none cm end from.console;
    early_audio = [];
    sound = ahead_none sm end from.sound;
    to_sound = refl;
    to_console = refl;
    video_is = refl;
    audio_is = refl;
  }

  -- a quiet step of either side
  pub lead_console_quiet : (at : SerialState C S) (video audio : List ℕ) → IsLead cm sm end from at video audio
      → cm.act at.console ≡ Quiet → cm.stamp at.console < end → cm.stamp at.console ≤ cm.stamp (cm.next at.console 0)
      → IsLead cm sm end from (record at { console = cm.next at.console 0 }) (video ++ cm.bytes at.console 0) audio
  lead_console_quiet at video audio h quiet before rises = record {
    turned = h.turned;
    turned_video = h.turned_video;
    turned_audio = h.turned_audio;
    underway = h.underway;
    early_video = h.early_video ++ cm.bytes at.console 0;
    console = ahead_on cm end h.turned.console at.console h.early_video h.console quiet before rises;
    early_audio = h.early_audio;
    sound = h.sound;
    to_sound = h.to_sound;
    to_console = h.to_console;
    video_is = sym (append_assoc h.turned_video h.early_video (cm.bytes at.console 0)) ∙ ap (λ v. v ++ cm.bytes at.console 0) h.video_is;
    audio_is = h.audio_is;
  }

  pub lead_sound_quiet : (at : SerialState C S) (video audio : List ℕ) → IsLead cm sm end from at video audio
      → sm.act at.sound ≡ Quiet → sm.stamp at.sound < end → sm.stamp at.sound ≤ sm.stamp (sm.next at.sound 0)
      → IsLead cm sm end from (record at { sound = sm.next at.sound 0 }) video (audio ++ sm.bytes at.sound 0)
  lead_sound_quiet at video audio h quiet before rises = record {
    turned = h.turned;
    turned_video = h.turned_video;
    turned_audio = h.turned_audio;
    underway = h.underway;
    early_video = h.early_video;
    console = h.console;
    early_audio = h.early_audio ++ sm.bytes at.sound 0;
    sound = ahead_on sm end h.turned.sound at.sound h.early_audio h.sound quiet before rises;
    to_sound = h.to_sound;
    to_console = h.to_console;
    video_is = h.video_is;
    audio_is = sym (append_assoc h.turned_audio h.early_audio (sm.bytes at.sound 0)) ∙ ap (λ v. v ++ sm.bytes at.sound 0) h.audio_is;
  }

  -- what a turn emits, by the side that makes it
  pub console_gives : (w : SerialState C S) → is_console_first cm sm w ≡ true
      → (console_emits cm sm w ≡ cm.bytes w.console (got_of (cm.act w.console) w.to_console)) × (sound_emits cm sm w ≡ [])
  console_gives w e = (
    ap (λ t. if t then cm.bytes w.console (got_of (cm.act w.console) w.to_console) else []) e,
    ap (λ t. if t then [] else sm.bytes w.sound (got_of (sm.act w.sound) w.to_sound)) e,
  )

  pub sound_gives : (w : SerialState C S) → is_console_first cm sm w ≡ false
      → (console_emits cm sm w ≡ []) × (sound_emits cm sm w ≡ sm.bytes w.sound (got_of (sm.act w.sound) w.to_sound))
  sound_gives w e = (
    ap (λ t. if t then cm.bytes w.console (got_of (cm.act w.console) w.to_console) else []) e,
    ap (λ t. if t then [] else sm.bytes w.sound (got_of (sm.act w.sound) w.to_sound)) e,
  )

  -- the serial console makes the first of the console's quiet steps, where it is that side's turn
  pub record Nearer (at : SerialState C S) (video audio : List ℕ) (console_steps sound_steps : ℕ) : Type 0 where
    pub lead : IsLead cm sm end from at video audio
    pub console : lead.console.steps ≡ console_steps
    pub sound : lead.sound.steps ≡ sound_steps

  -- a turn of the serial console alone, in a form in which the side that stepped is told
  underway_by : (w after : SerialState C S) (v a more_video more_audio : List ℕ) → IsUnderway cm sm from end w v a → ¬ IsPast cm sm end w
      → turn cm sm w ≡ after → console_emits cm sm w ≡ more_video → sound_emits cm sm w ≡ more_audio
      → IsUnderway cm sm from end after (v ++ more_video) (a ++ more_audio)
  underway_by w after v a more_video more_audio h short is video audio =
      subst (λ x. IsUnderway cm sm from end x (v ++ more_video) (a ++ more_audio)) is
      (subst (λ x. IsUnderway cm sm from end (turn cm sm w) (v ++ x) (a ++ more_audio)) video
      (subst (λ x. IsUnderway cm sm from end (turn cm sm w) (v ++ console_emits cm sm w) (a ++ x)) audio
      (run_goes_on cm sm from end w v a h short)))

  -- a quiet step of the serial console
  pub quiet_console_step : (w : SerialState C S) → cm.act w.console ≡ Quiet → console_step cm sm w ≡ record w { console = cm.next w.console 0 }
  quiet_console_step w quiet =
      ap (λ act. record { console = cm.next w.console (got_of act w.to_console); sound = w.sound; to_sound = outgoing_after act w.to_sound; to_console = incoming_after act w.to_console }) quiet

  pub quiet_sound_step : (w : SerialState C S) → sm.act w.sound ≡ Quiet → sound_step cm sm w ≡ record w { sound = sm.next w.sound 0 }
  quiet_sound_step w quiet =
      ap (λ act. record { console = w.console; sound = sm.next w.sound (got_of act w.to_sound); to_sound = incoming_after act w.to_sound; to_console = outgoing_after act w.to_console }) quiet

  -- the console's first quiet step is the serial console's next turn, where that is the console's
  nearer_console : (at : SerialState C S) (video audio : List ℕ) (h : IsLead cm sm end from at video audio) (k : ℕ)
      → h.console.steps ≡ suc k → is_console_first cm sm h.turned ≡ true → Nearer at video audio k h.sound.steps
  nearer_console at video audio h k some first = go (subst (λ n. QuietSteps cm end n h.turned.console at.console h.early_video) some h.console.quiet)
    where
      go : QuietSteps cm end (suc k) h.turned.console at.console h.early_video → Nearer at video audio k h.sound.steps
      go (quiet, before, rises, (later, joined, rest)) =
          let gives = console_gives h.turned first in
          record {
            lead = record {
              turned = record { console = cm.next h.turned.console 0; sound = h.turned.sound; to_sound = h.turned.to_sound; to_console = h.turned.to_console };
              turned_video = h.turned_video ++ cm.bytes h.turned.console 0;
              turned_audio = h.turned_audio ++ [];
              underway = underway_by h.turned _ h.turned_video h.turned_audio (cm.bytes h.turned.console 0) [] h.underway
                  (λ past. absurd (omega (arith, past.console, before)))
                  (turn_console cm sm h.turned first ∙ quiet_console_step h.turned quiet)
                  (gives.0 ∙ ap (λ act. cm.bytes h.turned.console (got_of act h.turned.to_console)) quiet) gives.1;
              early_video = later;
              console = record { steps = k; quiet = rest };
              early_audio = h.early_audio;
              sound = h.sound;
              to_sound = h.to_sound;
              to_console = h.to_console;
              video_is = append_assoc h.turned_video (cm.bytes h.turned.console 0) later ∙ ap (λ v. h.turned_video ++ v) joined ∙ h.video_is;
              audio_is = ap (λ a. a ++ h.early_audio) (append-nil h.turned_audio) ∙ h.audio_is;
            };
            console = refl;
            sound = refl;
          }

  nearer_sound : (at : SerialState C S) (video audio : List ℕ) (h : IsLead cm sm end from at video audio) (k : ℕ)
      → h.sound.steps ≡ suc k → is_console_first cm sm h.turned ≡ false → Nearer at video audio h.console.steps k
  nearer_sound at video audio h k some first = go (subst (λ n. QuietSteps sm end n h.turned.sound at.sound h.early_audio) some h.sound.quiet)
    where
      go : QuietSteps sm end (suc k) h.turned.sound at.sound h.early_audio → Nearer at video audio h.console.steps k
      go (quiet, before, rises, (later, joined, rest)) =
          let gives = sound_gives h.turned first in
          record {
            lead = record {
              turned = record { console = h.turned.console; sound = sm.next h.turned.sound 0; to_sound = h.turned.to_sound; to_console = h.turned.to_console };
              turned_video = h.turned_video ++ [];
              turned_audio = h.turned_audio ++ sm.bytes h.turned.sound 0;
              underway = underway_by h.turned _ h.turned_video h.turned_audio [] (sm.bytes h.turned.sound 0) h.underway
                  (λ past. absurd (omega (arith, past.sound, before)))
                  (turn_sound cm sm h.turned first ∙ quiet_sound_step h.turned quiet)
                  gives.0 (gives.1 ∙ ap (λ act. sm.bytes h.turned.sound (got_of act h.turned.to_sound)) quiet);
              early_video = h.early_video;
              console = h.console;
              early_audio = later;
              sound = record { steps = k; quiet = rest };
              to_sound = h.to_sound;
              to_console = h.to_console;
              video_is = ap (λ v. v ++ h.early_video) (append-nil h.turned_video) ∙ h.video_is;
              audio_is = append_assoc h.turned_audio (sm.bytes h.turned.sound 0) later ∙ ap (λ v. h.turned_audio ++ v) joined ∙ h.audio_is;
            };
            console = refl;
            sound = refl;
          }

  -- a lead in which the side whose turn it is, is not ahead
  pub data IsSettled (at : SerialState C S) (video audio : List ℕ) : Type 0 where
    console_next : (h : IsLead cm sm end from at video audio) → is_console_first cm sm h.turned ≡ true
        → cm.stamp h.turned.console ≤ sm.stamp h.turned.sound
        → h.turned.console ≡ at.console → h.early_video ≡ [] → IsSettled at video audio
    sound_next : (h : IsLead cm sm end from at video audio) → is_console_first cm sm h.turned ≡ false
        → sm.stamp h.turned.sound < cm.stamp h.turned.console
        → h.turned.sound ≡ at.sound → h.early_audio ≡ [] → IsSettled at video audio

  settle : (fuel : ℕ) (at : SerialState C S) (video audio : List ℕ) (h : IsLead cm sm end from at video audio)
      → h.console.steps + h.sound.steps < fuel → IsSettled at video audio
  settle zero at video audio h small = absurd (omega arith)
  settle (suc fuel) at video audio h small = go (λ nearer less. settle fuel at video audio nearer less) (turn_of cm sm h.turned) h.console.steps h.sound.steps refl refl
    where
      go : ((nearer : IsLead cm sm end from at video audio) → nearer.console.steps + nearer.sound.steps < fuel → IsSettled at video audio)
          → TurnOf cm sm h.turned → (k l : ℕ) → h.console.steps ≡ k → h.sound.steps ≡ l → IsSettled at video audio
      go again (by_console le e) zero l none any =
          let rest = subst (λ n. QuietSteps cm end n h.turned.console at.console h.early_video) none h.console.quiet in
          console_next h e le rest.0 rest.1
      go again (by_console le e) (suc k) l some any =
          let n = nearer_console at video audio h k some e in
          again n.lead (omega (arith, n.console, n.sound, some, small))
      go again (by_sound lt e) k zero any none =
          let rest = subst (λ n. QuietSteps sm end n h.turned.sound at.sound h.early_audio) none h.sound.quiet in
          sound_next h e lt rest.0 rest.1
      go again (by_sound lt e) k (suc l) any some =
          let n = nearer_sound at video audio h l some e in
          again n.lead (omega (arith, n.console, n.sound, some, small))

  pub settled : (at : SerialState C S) (video audio : List ℕ) → IsLead cm sm end from at video audio → IsSettled at video audio
  settled at video audio h = settle (suc (h.console.steps + h.sound.steps)) at video audio h (omega arith)

  -- a state and the bytes at its ports, both the same
  both : {State X : Type 0} (f : State → List ℕ → X) (m k : State) (b d : List ℕ) → m ≡ k → b ≡ d → f m b ≡ f k d
  both f m k b d state bytes = ap (λ x. f x b) state ∙ ap (λ x. f k x) bytes

  -- where the serial console is past the end, so are the machines ahead of it
  past_ahead : (at : SerialState C S) (video audio : List ℕ) (h : IsLead cm sm end from at video audio) → IsPast cm sm end h.turned → IsPast cm sm end at
  past_ahead at video audio h past =
      let console = quiet_rises cm end h.console.steps h.turned.console at.console h.early_video h.console.quiet in
      let sound = quiet_rises sm end h.sound.steps h.turned.sound at.sound h.early_audio h.sound.quiet in
      record { console = omega (arith, past.console, console); sound = omega (arith, past.sound, sound) }

  -- the console's turn
  by_the_console : (at : SerialState C S) (video audio : List ℕ) (h : IsLead cm sm end from at video audio) → is_console_first cm sm h.turned ≡ true
      → h.turned.console ≡ at.console → h.early_video ≡ [] → ¬ IsPast cm sm end at
      → IsLead cm sm end from (console_step cm sm at) (video ++ cm.bytes at.console (got_of (cm.act at.console) at.to_console)) (audio ++ [])
  by_the_console at video audio h first same none short =
      let gives = console_gives h.turned first in
      record {
        turned = console_step cm sm h.turned;
        turned_video = h.turned_video ++ cm.bytes at.console (got_of (cm.act at.console) at.to_console);
        turned_audio = h.turned_audio ++ [];
        underway = underway_by h.turned _ h.turned_video h.turned_audio _ [] h.underway (λ past. short (past_ahead at video audio h past))
            (turn_console cm sm h.turned first)
            (gives.0 ∙ both (λ m b. cm.bytes m (got_of (cm.act m) b)) h.turned.console at.console h.turned.to_console at.to_console same h.to_console) gives.1;
        early_video = [];
        console = record { steps = 0; quiet = (both (λ m b. cm.next m (got_of (cm.act m) b)) h.turned.console at.console h.turned.to_console at.to_console same h.to_console, refl) };
        early_audio = h.early_audio;
        sound = h.sound;
        to_sound = both (λ m b. outgoing_after (cm.act m) b) h.turned.console at.console h.turned.to_sound at.to_sound same h.to_sound;
        to_console = both (λ m b. incoming_after (cm.act m) b) h.turned.console at.console h.turned.to_console at.to_console same h.to_console;
        video_is = append-nil _ ∙ ap (λ v. v ++ cm.bytes at.console (got_of (cm.act at.console) at.to_console))
            (sym (append-nil h.turned_video) ∙ ap (λ v. h.turned_video ++ v) (sym none) ∙ h.video_is);
        audio_is = ap (λ a. a ++ h.early_audio) (append-nil h.turned_audio) ∙ h.audio_is ∙ sym (append-nil audio);
      }

  by_the_sound : (at : SerialState C S) (video audio : List ℕ) (h : IsLead cm sm end from at video audio) → is_console_first cm sm h.turned ≡ false
      → h.turned.sound ≡ at.sound → h.early_audio ≡ [] → ¬ IsPast cm sm end at
      → IsLead cm sm end from (sound_step cm sm at) (video ++ []) (audio ++ sm.bytes at.sound (got_of (sm.act at.sound) at.to_sound))
  by_the_sound at video audio h first same none short =
      let gives = sound_gives h.turned first in
      record {
        turned = sound_step cm sm h.turned;
        turned_video = h.turned_video ++ [];
        turned_audio = h.turned_audio ++ sm.bytes at.sound (got_of (sm.act at.sound) at.to_sound);
        underway = underway_by h.turned _ h.turned_video h.turned_audio [] _ h.underway (λ past. short (past_ahead at video audio h past))
            (turn_sound cm sm h.turned first) gives.0
            (gives.1 ∙ both (λ m b. sm.bytes m (got_of (sm.act m) b)) h.turned.sound at.sound h.turned.to_sound at.to_sound same h.to_sound);
        early_video = h.early_video;
        console = h.console;
        early_audio = [];
        sound = record { steps = 0; quiet = (both (λ m b. sm.next m (got_of (sm.act m) b)) h.turned.sound at.sound h.turned.to_sound at.to_sound same h.to_sound, refl) };
        to_sound = both (λ m b. incoming_after (sm.act m) b) h.turned.sound at.sound h.turned.to_sound at.to_sound same h.to_sound;
        to_console = both (λ m b. outgoing_after (sm.act m) b) h.turned.sound at.sound h.turned.to_console at.to_console same h.to_console;
        video_is = ap (λ v. v ++ h.early_video) (append-nil h.turned_video) ∙ h.video_is ∙ sym (append-nil video);
        audio_is = append-nil _ ∙ ap (λ a. a ++ sm.bytes at.sound (got_of (sm.act at.sound) at.to_sound))
            (sym (append-nil h.turned_audio) ∙ ap (λ a. h.turned_audio ++ a) (sym none) ∙ h.audio_is);
      }

  -- a turn of the machines as they stand is one of the serial console
  pub lead_console_turn : (at : SerialState C S) (video audio : List ℕ) → IsLead cm sm end from at video audio
      → cm.stamp at.console ≤ sm.stamp at.sound → cm.stamp at.console < end
      → IsLead cm sm end from (console_step cm sm at) (video ++ cm.bytes at.console (got_of (cm.act at.console) at.to_console)) audio
  lead_console_turn at video audio lead first before = go (settled at video audio lead)
    where
      go : IsSettled at video audio → IsLead cm sm end from (console_step cm sm at) (video ++ cm.bytes at.console (got_of (cm.act at.console) at.to_console)) audio
      go (console_next h e le same none) =
          subst (λ a. IsLead cm sm end from (console_step cm sm at) (video ++ cm.bytes at.console (got_of (cm.act at.console) at.to_console)) a) (append-nil audio)
          (by_the_console at video audio h e same none (λ past. absurd (omega (arith, past.console, before))))
      go (sound_next h e lt same none) =
          let up = quiet_rises cm end h.console.steps h.turned.console at.console h.early_video h.console.quiet in
          let is : sm.stamp h.turned.sound ≡ sm.stamp at.sound = ap sm.stamp same in
          absurd (omega (arith, up, is, lt, first))

  pub lead_sound_turn : (at : SerialState C S) (video audio : List ℕ) → IsLead cm sm end from at video audio
      → sm.stamp at.sound < cm.stamp at.console → sm.stamp at.sound < end
      → IsLead cm sm end from (sound_step cm sm at) video (audio ++ sm.bytes at.sound (got_of (sm.act at.sound) at.to_sound))
  lead_sound_turn at video audio lead first before = go (settled at video audio lead)
    where
      go : IsSettled at video audio → IsLead cm sm end from (sound_step cm sm at) video (audio ++ sm.bytes at.sound (got_of (sm.act at.sound) at.to_sound))
      go (sound_next h e lt same none) =
          subst (λ v. IsLead cm sm end from (sound_step cm sm at) v (audio ++ sm.bytes at.sound (got_of (sm.act at.sound) at.to_sound))) (append-nil video)
          (by_the_sound at video audio h e same none (λ past. absurd (omega (arith, past.sound, before))))
      go (console_next h e le same none) =
          let up = quiet_rises sm end h.sound.steps h.turned.sound at.sound h.early_audio h.sound.quiet in
          let is : cm.stamp h.turned.console ≡ cm.stamp at.console = ap cm.stamp same in
          absurd (omega (arith, up, is, le, first))

  -- machines that have come to the end are at the end of the serial run, and no side is ahead
  pub at_end : {State : Type 0} (moves : Moves State) (n : ℕ) (m k : State) (bytes : List ℕ) → QuietSteps moves end n m k bytes → end ≤ moves.stamp m → bytes ≡ []
  at_end moves zero m k bytes (same, none) past = none
  at_end moves (suc n) m k bytes (quiet, before, up, rest) past = absurd (omega arith)

  pub lead_whole : (at : SerialState C S) (video audio : List ℕ) → IsLead cm sm end from at video audio → IsPast cm sm end at
      → IsOutput cm sm from end video audio
  lead_whole at video audio lead past = go (settled at video audio lead)
    where
      over : (h : IsLead cm sm end from at video audio) → IsPast cm sm end h.turned → h.early_video ≡ [] → h.early_audio ≡ [] → IsOutput cm sm from end video audio
      over h there no_video no_audio =
          subst (λ v. IsOutput cm sm from end v audio) (sym (append-nil h.turned_video) ∙ ap (λ v. h.turned_video ++ v) (sym no_video) ∙ h.video_is)
          (subst (λ a. IsOutput cm sm from end h.turned_video a) (sym (append-nil h.turned_audio) ∙ ap (λ a. h.turned_audio ++ a) (sym no_audio) ∙ h.audio_is)
          (run_is_over cm sm from end h.turned h.turned_video h.turned_audio h.underway there))

      go : IsSettled at video audio → IsOutput cm sm from end video audio
      go (console_next h e le same none) =
          let is : cm.stamp h.turned.console ≡ cm.stamp at.console = ap cm.stamp same in
          let there : end ≤ sm.stamp h.turned.sound = omega (arith, is, le, past.console) in
          over h (record { console = omega (arith, is, past.console); sound = there }) none
          (at_end sm h.sound.steps h.turned.sound at.sound h.early_audio h.sound.quiet there)
      go (sound_next h e lt same none) =
          let is : sm.stamp h.turned.sound ≡ sm.stamp at.sound = ap sm.stamp same in
          let there : end ≤ cm.stamp h.turned.console = omega (arith, is, lt, past.sound) in
          over h (record { console = there; sound = omega (arith, is, past.sound) })
          (at_end cm h.console.steps h.turned.console at.console h.early_video h.console.quiet there) none
