-- The steps of a plan one after another, and that what they emit is there.
use Rattle.std.proofs.Common.{◌≡◌, ℕ, ◌+◌, ◌≤◌, ◌==◌, Bool, true, false, max, List, [], ◌∷◌, ◌++◌, length, take, drop, length-append, refl, ap, sym, ◌∙◌, subst, append_assoc, arith, if◌then◌else◌}
use Rattle.std.proofs.lemmas.List.{append-nil, take-append-drop, take_all}
use Rattle.std.proofs.Math.Seq.{take-append_seam}
use Rattle.snes_defs.specs.declared.cart.Job.{Job}
use Rattle.snes_defs.specs.declared.ports.Side.{Side}
use Rattle.snes_defs.specs.declared.ports.Side.TheVariants.{Console, Sound}
use Rattle.snes_defs.specs.declared.script.Span.{Span}
use Rattle.snes_defs.specs.Script.{frames_of}
use Rattle.side_law.specs.Serial.{SerialState}
use Rattle.side_law.specs.SerialRun.{IsOutput, IsUnderway, IsPast, after_turns}
use Rattle.side_law.proofs.SerialRuns.{output_begins}
use Rattle.console_steps.specs.ConsoleState.{ConsoleState, console_moves}
use Rattle.audio_side.specs.Sound.{SoundState, sound_moves}
use Rattle.input_files.specs.declared.plan.PlanStep.{PlanStep}
use Rattle.input_files.specs.declared.plan.PlanStep.TheVariants.{Go, Keep, Back, Reset}
use Rattle.input_files.specs.Plan.{frames_in, NamesBelow}
use Rattle.run_drive.specs.Played.{IsPlayable, PlayedWhole, PlayedFirst}
use Rattle.plan_drive.specs.Paths.{Path, Paths, no_paths, longer, kept, can_press, after_step, after_steps, room_of, slots_from, slots_of}
use Rattle.plan_drive.specs.Joins.{Joins}
use Rattle.snapshot.specs.declared.rewind.Rewind.{Rewind}
use Rattle.snapshot.specs.Path.{PathEmits, start_of, end_of_path}
use Rattle.snapshot.specs.Positions.{IsRested, IsBeyond, StandsIn}
use Rattle.snapshot.specs.PathLaws.{cancel, path_emits}
use Rattle.run_drive.specs.Driven.{by_side}
use Rattle.snapshot.specs.Handed.{Gave, GaveSome}
use Rattle.snapshot.specs.Stepped.{StepsNone, StepsOn, StepsByGoes, stepped_of}
use Rattle.console_machine.specs.Playing.{console_played}
use Rattle.snapshot.proofs.Stepping.{HasStepped, stepped_first, stepped_go, stepped_none, stepped_whole, go_lasts}
use Rattle.snapshot.proofs.Runs.{frames_more, goes_on}

-- ---- what a longer path has beyond a shorter one

-- an output is that of a run that is past the end
pub record Ended (from : SerialState ConsoleState SoundState) (end : ℕ) (video audio : List ℕ) : Type 0 where
  pub now : SerialState ConsoleState SoundState
  pub underway : IsUnderway console_moves sound_moves from end now video audio
  pub past : IsPast console_moves sound_moves end now

ended : (from : SerialState ConsoleState SoundState) (end : ℕ) (video audio : List ℕ) → IsOutput console_moves sound_moves from end video audio → Ended from end video audio
ended from end video audio h = record {
  now = after_turns console_moves sound_moves from h.turns;
  underway = record { turns = h.turns; now_is = refl; not_past = h.runs.first; video_is = h.video_is; audio_is = h.audio_is };
  past = h.runs.past;
}

module _ (job : Job) (n : ℕ) where
  -- the output of the shorter path is a beginning of that of the longer one
  pub longer_begins : (path : Path) (span : Span) (video audio all_video all_audio : List ℕ) → frames_of path.spans + span.count ≤ 36000
      → PathEmits job n path video audio → PathEmits job n (longer path span) all_video all_audio
      → ((rest : List ℕ) × (video ++ rest ≡ all_video)) × ((rest : List ℕ) × (audio ++ rest ≡ all_audio))
  longer_begins path span video audio all_video all_audio few short long =
      let e = ended (start_of job n path) (end_of_path job.region path) video audio short in
      output_begins console_moves sound_moves (start_of job n (longer path span)) (end_of_path job.region (longer path span)) _ video audio all_video all_audio
      (goes_on job n path span e.now video audio few e.underway e.past) long

  pub record More (path next : Path) : Type 0 where
    pub video : List ℕ
    pub audio : List ℕ
    pub beyond : IsBeyond job n path next video audio

  pub goes_further : (path : Path) (span : Span) → frames_of path.spans + span.count ≤ 36000 → More path (longer path span)
  goes_further path span few =
      let (video, audio, short) = path_emits job n path in
      let (all_video, all_audio, long) = path_emits job n (longer path span) in
      let begins = longer_begins path span video audio all_video all_audio few short long in
      record {
        video = begins.0.0;
        audio = begins.1.0;
        beyond = record {
          first_video = video;
          first_audio = audio;
          first = short;
          whole = subst (λ v. PathEmits job n (longer path span) v (audio ++ begins.1.0)) (sym begins.0.1)
              (subst (λ a. PathEmits job n (longer path span) all_video a) (sym begins.1.1) long);
        };
      }

  -- no path lasts longer than so many frames
  pub record AreWithin (most : ℕ) (paths : Paths) : Type 0 where
    pub path : frames_of paths.path.spans ≤ most
    pub held : (slot : ℕ) → frames_of (paths.held slot).spans ≤ most

  chosen : (b : Bool) (most : ℕ) (p q : Path) → frames_of p.spans ≤ most → frames_of q.spans ≤ most → frames_of (if b then p else q).spans ≤ most
  chosen true most p q h k = h
  chosen false most p q h k = k

  gone_within : (most count pad1 pad2 : ℕ) (paths : Paths) → AreWithin most paths → AreWithin (most + count) (after_step paths (Go count pad1 pad2))
  gone_within most count pad1 pad2 paths h =
      let more = frames_more paths.path.spans (record { count = count; pad1 = pad1; pad2 = pad2 }) in
      let le = h.path in
      record { path = omega (arith, more, le); held = λ slot. let less = h.held slot in omega (arith, less) }

  kept_within : (most slot : ℕ) (paths : Paths) → AreWithin most paths → AreWithin most (kept paths slot)
  kept_within most slot paths h = record { path = h.path; held = λ k. chosen (k == slot) most paths.path (paths.held k) h.path (h.held k) }

  back_within : (most slot : ℕ) (paths : Paths) → AreWithin most paths → AreWithin most (after_step paths (Back slot))
  back_within most slot paths h = record { path = h.held slot; held = h.held }

  reset_within : (most : ℕ) (paths : Paths) → AreWithin most paths → AreWithin most (after_step paths Reset)
  reset_within most paths h = record { path = h.path; held = h.held }

  -- some steps emit something
  pub record Emitted (steps : List PlanStep) (paths : Paths) : Type 0 where
    pub video : List ℕ
    pub audio : List ℕ
    pub joins : Joins (PathEmits job n) steps paths video audio

  pub steps_emit : (steps : List PlanStep) (paths : Paths) (most : ℕ) → AreWithin most paths → most + frames_in steps ≤ 36000 → Emitted steps paths
  steps_emit [] paths most within few = record { video = []; audio = []; joins = (refl, refl) }
  steps_emit (Go count pad1 pad2 ∷ rest) paths most within few =
      let le = within.path in
      let one = goes_further paths.path (record { count = count; pad1 = pad1; pad2 = pad2 }) (omega (arith, le, few)) in
      let next = steps_emit rest (after_step paths (Go count pad1 pad2)) (most + count) (gone_within most count pad1 pad2 paths within) (omega (arith, few)) in
      record {
        video = one.video ++ next.video;
        audio = one.audio ++ next.audio;
        joins = (one.video, one.audio, next.video, next.audio, one.beyond, next.joins, refl, refl);
      }
  steps_emit (Keep slot ∷ rest) paths most within few =
      let next = steps_emit rest (kept paths slot) most (kept_within most slot paths within) (omega (arith, few)) in
      record { video = next.video; audio = next.audio; joins = next.joins }
  steps_emit (Back slot ∷ rest) paths most within few =
      let next = steps_emit rest (after_step paths (Back slot)) most (back_within most slot paths within) (omega (arith, few)) in
      record { video = next.video; audio = next.audio; joins = next.joins }
  steps_emit (Reset ∷ rest) paths most within few =
      let next = steps_emit rest (after_step paths Reset) most (reset_within most paths within) (omega (arith, few)) in
      record { video = next.video; audio = next.audio; joins = next.joins }

  -- a plan emits something
  pub plan_emits : (steps : List PlanStep) → frames_in steps ≤ 36000 → IsPlayable (Joins (PathEmits job n) steps no_paths)
  plan_emits steps few =
      let all = steps_emit steps no_paths 0 (record { path = omega arith; held = λ slot. omega arith }) (omega (arith, few)) in
      record { video = all.video; audio = all.audio; emitted = all.joins }

-- ---- a rewinder on its way

-- some steps of a plan are made since the start, and the rest is left
pub record Reached (job : Job) (n : ℕ) (steps rest : List PlanStep) (holds : Side → List ℕ → Type 0) (start r : Rewind) : Type 0 where
  pub paths : Paths
  pub video : List ℕ
  pub audio : List ℕ
  pub rested : IsRested job n paths r
  pub leads : after_steps rest paths ≡ after_steps steps no_paths
  pub so_far : (more_video more_audio : List ℕ) → Joins (PathEmits job n) rest paths more_video more_audio
      → Joins (PathEmits job n) steps no_paths (video ++ more_video) (audio ++ more_audio)
  pub frames : ℕ
  pub frames_left : frames + frames_in rest ≡ frames_in steps
  pub within : AreWithin job n frames paths
  pub goes : ℕ
  pub goes_left : goes + room_of rest ≡ room_of steps
  pub spans : length paths.path.spans ≤ goes
  pub resets : length paths.path.resets ≤ goes
  pub held_spans : (slot : ℕ) → length (paths.held slot).spans ≤ goes
  pub held_resets : (slot : ℕ) → length (paths.held slot).resets ≤ goes
  pub video_taken : holds Console video
  pub audio_taken : holds Sound audio
  pub stepped : HasStepped job n steps rest paths start r

pub reached_first : (job : Job) (n : ℕ) (steps : List PlanStep) (holds : Side → List ℕ → Type 0) (r : Rewind)
    → IsRested job n no_paths r → holds Console [] → holds Sound [] → stepped_of r ≤ 18446744073709551615 → Reached job n steps steps holds r r
reached_first job n steps holds r rested video audio few = record {
  paths = no_paths;
  video = [];
  audio = [];
  rested = rested;
  leads = refl;
  so_far = λ more_video more_audio joins. joins;
  frames = 0;
  frames_left = omega arith;
  within = record { path = omega arith; held = λ slot. omega arith };
  goes = 0;
  goes_left = omega arith;
  spans = omega arith;
  resets = omega arith;
  held_spans = λ slot. omega arith;
  held_resets = λ slot. omega arith;
  video_taken = video;
  audio_taken = audio;
  stepped = stepped_first job n steps r few;
}

-- f ++ g is a beginning of f ++ p, so g is one of p
begins : (f g w p : List ℕ) (k : ℕ) → f ++ g ≡ take k w → f ++ p ≡ w → g ++ drop k w ≡ p
begins f g w p k first whole =
    cancel f (g ++ drop k w) p (sym (append_assoc f g (drop k w)) ∙ ap (λ x. x ++ drop k w) first ∙ take-append-drop {A = ℕ} k w ∙ sym whole)

-- a beginning of a list is its first numbers
first_of : (a rest b : List ℕ) → a ++ rest ≡ b → take (length a) b ≡ a
first_of a rest b e = ap (take (length a)) (sym e) ∙ take-append_seam a rest

-- what was handed out before a go, and a beginning of what the go hands out, are a beginning of all
first_taken : (Holds : List ℕ → Type 0) (had g w p more : List ℕ) (f : List ℕ) (k : ℕ) → f ++ g ≡ take k w → f ++ p ≡ w → Holds (had ++ g)
    → Holds (take (length (had ++ g)) (had ++ (p ++ more)))
first_taken Holds had g w p more f k first whole h =
    let rest = begins f g w p k first whole in
    subst Holds (sym (first_of (had ++ g) (drop k w ++ more) (had ++ (p ++ more))
    (append_assoc had g (drop k w ++ more) ∙ ap (λ x. had ++ x) (sym (append_assoc g (drop k w) more) ∙ ap (λ x. x ++ more) rest)))) h

module _ (job : Job) (n : ℕ) (steps rest : List PlanStep) (now later : Side → List ℕ → Type 0) (start r after : Rewind) where
  pub reached_go : (count pad1 pad2 : ℕ) (mid : Rewind) (h : Reached job n steps (Go count pad1 pad2 ∷ rest) now start r)
      → Gave job n (after_step h.paths (Go count pad1 pad2)) h.paths.path (by_side h.video h.audio) later after
      → ((w : SerialState ConsoleState SoundState) → StandsIn r w → StandsIn mid (record w { console = console_played w.console (record { count = count; pad1 = pad1; pad2 = pad2 }) }))
      → StepsNone r mid → StepsOn mid after
      → Reached job n steps rest later start after
  reached_go count pad1 pad2 mid h gave machines none on =
      let span : Span = record { count = count; pad1 = pad1; pad2 = pad2 } in
      let goes = h.goes_left in
      let frames = h.frames_left in
      let spans = h.spans in
      let size = length-append h.paths.path.spans (span ∷ []) in
      record {
        paths = after_step h.paths (Go count pad1 pad2);
        video = h.video ++ gave.video;
        audio = h.audio ++ gave.audio;
        rested = gave.rested;
        leads = h.leads;
        so_far = λ more_video more_audio joins.
            subst (λ v. Joins (PathEmits job n) steps no_paths v ((h.audio ++ gave.audio) ++ more_audio)) (sym (append_assoc h.video gave.video more_video))
            (subst (λ a. Joins (PathEmits job n) steps no_paths (h.video ++ (gave.video ++ more_video)) a) (sym (append_assoc h.audio gave.audio more_audio))
            (h.so_far (gave.video ++ more_video) (gave.audio ++ more_audio) (gave.video, gave.audio, more_video, more_audio, gave.beyond, joins, refl, refl)));
        frames = h.frames + count;
        frames_left = omega (arith, frames);
        within = gone_within job n h.frames count pad1 pad2 h.paths h.within;
        goes = h.goes + 1;
        goes_left = omega (arith, goes);
        spans = omega (arith, size, spans);
        resets = let le = h.resets in omega (arith, le);
        held_spans = λ slot. let le = h.held_spans slot in omega (arith, le);
        held_resets = λ slot. let le = h.held_resets slot in omega (arith, le);
        video_taken = gave.video_taken;
        audio_taken = gave.audio_taken;
        stepped = stepped_go job n steps rest count pad1 pad2 h.paths start r mid after h.stepped none on
            (go_lasts job n h.paths.path (after_step h.paths (Go count pad1 pad2)).path span r mid after h.rested.now machines gave.rested.now);
      }

  -- a go that failed: first bytes of all were taken
  pub reached_part : (count pad1 pad2 : ℕ) (h : Reached job n steps (Go count pad1 pad2 ∷ rest) now start r) → frames_in steps ≤ 36000
      → GaveSome job n (after_step h.paths (Go count pad1 pad2)) h.paths.path (by_side h.video h.audio) later
      → PlayedFirst (Joins (PathEmits job n) steps no_paths) later
  reached_part count pad1 pad2 h few gave =
      let span : Span = record { count = count; pad1 = pad1; pad2 = pad2 } in
      let left = h.frames_left in
      let le = h.within.path in
      let next = steps_emit job n rest (after_step h.paths (Go count pad1 pad2)) (h.frames + count) (gone_within job n h.frames count pad1 pad2 h.paths h.within) (omega (arith, left, few)) in
      let both = longer_begins job n h.paths.path span gave.first_video gave.first_audio gave.whole_video gave.whole_audio (omega (arith, le, left, few)) gave.first gave.whole in
      let beyond : IsBeyond job n h.paths.path (after_step h.paths (Go count pad1 pad2)).path both.0.0 both.1.0 = record {
        first_video = gave.first_video;
        first_audio = gave.first_audio;
        first = gave.first;
        whole = subst (λ v. PathEmits job n (longer h.paths.path span) v (gave.first_audio ++ both.1.0)) (sym both.0.1)
            (subst (λ a. PathEmits job n (longer h.paths.path span) gave.whole_video a) (sym both.1.1) gave.whole);
      } in
      record {
        video = h.video ++ (both.0.0 ++ next.video);
        audio = h.audio ++ (both.1.0 ++ next.audio);
        emitted = h.so_far (both.0.0 ++ next.video) (both.1.0 ++ next.audio) (both.0.0, both.1.0, next.video, next.audio, beyond, next.joins, refl, refl);
        video_count = length (h.video ++ gave.video);
        video_taken = first_taken (later Console) h.video gave.video gave.whole_video both.0.0 next.video gave.first_video gave.video_count gave.video_is both.0.1 gave.video_taken;
        audio_count = length (h.audio ++ gave.audio);
        audio_taken = first_taken (later Sound) h.audio gave.audio gave.whole_audio both.1.0 next.audio gave.first_audio gave.audio_count gave.audio_is both.1.1 gave.audio_taken;
      }

  shorter : (b : Bool) (goes : ℕ) (p q : Path) → length p.spans ≤ goes → length q.spans ≤ goes → length (if b then p else q).spans ≤ goes
  shorter true goes p q h k = h
  shorter false goes p q h k = k

  fewer : (b : Bool) (goes : ℕ) (p q : Path) → length p.resets ≤ goes → length q.resets ≤ goes → length (if b then p else q).resets ≤ goes
  fewer true goes p q h k = h
  fewer false goes p q h k = k

  pub reached_keep : (slot : ℕ) (h : Reached job n steps (Keep slot ∷ rest) now start r) → IsRested job n (kept h.paths slot) after → StepsNone r after
      → Reached job n steps rest now start after
  reached_keep slot h rested none = record {
    paths = kept h.paths slot;
    video = h.video;
    audio = h.audio;
    rested = rested;
    leads = h.leads;
    so_far = h.so_far;
    frames = h.frames;
    frames_left = h.frames_left;
    within = kept_within job n h.frames slot h.paths h.within;
    goes = h.goes;
    goes_left = h.goes_left;
    spans = h.spans;
    resets = h.resets;
    held_spans = λ k. shorter (k == slot) h.goes h.paths.path (h.paths.held k) h.spans (h.held_spans k);
    held_resets = λ k. fewer (k == slot) h.goes h.paths.path (h.paths.held k) h.resets (h.held_resets k);
    video_taken = h.video_taken;
    audio_taken = h.audio_taken;
    stepped = stepped_none job n steps rest (Keep slot) h.paths start r after (λ more goes. goes) h.stepped none;
  }

  pub reached_back : (slot : ℕ) (h : Reached job n steps (Back slot ∷ rest) now start r) → IsRested job n (after_step h.paths (Back slot)) after → StepsNone r after
      → Reached job n steps rest now start after
  reached_back slot h rested none = record {
    paths = after_step h.paths (Back slot);
    video = h.video;
    audio = h.audio;
    rested = rested;
    leads = h.leads;
    so_far = h.so_far;
    frames = h.frames;
    frames_left = h.frames_left;
    within = back_within job n h.frames slot h.paths h.within;
    goes = h.goes;
    goes_left = h.goes_left;
    spans = h.held_spans slot;
    resets = h.held_resets slot;
    held_spans = h.held_spans;
    held_resets = h.held_resets;
    video_taken = h.video_taken;
    audio_taken = h.audio_taken;
    stepped = stepped_none job n steps rest (Back slot) h.paths start r after (λ more goes. goes) h.stepped none;
  }

  -- a press of the button, or none
  one_more : (b : Bool) (resets : List ℕ) (frames goes : ℕ) → length resets ≤ goes
      → length (if b then resets ++ frames ∷ [] else resets) ≤ goes + 1
  one_more true resets frames goes le = let size = length-append resets (frames ∷ []) in omega (arith, size, le)
  one_more false resets frames goes le = omega (arith, le)

  pub reached_reset : (h : Reached job n steps (Reset ∷ rest) now start r) → IsRested job n (after_step h.paths Reset) after → StepsNone r after
      → Reached job n steps rest now start after
  reached_reset h rested none = record {
    paths = after_step h.paths Reset;
    video = h.video;
    audio = h.audio;
    rested = rested;
    leads = h.leads;
    so_far = h.so_far;
    frames = h.frames;
    frames_left = h.frames_left;
    within = reset_within job n h.frames h.paths h.within;
    goes = h.goes + 1;
    goes_left = let left = h.goes_left in omega (arith, left);
    spans = let le = h.spans in omega (arith, le);
    resets = one_more (can_press h.paths.path) h.paths.path.resets (frames_of h.paths.path.spans) h.goes h.resets;
    held_spans = λ slot. let le = h.held_spans slot in omega (arith, le);
    held_resets = λ slot. let le = h.held_resets slot in omega (arith, le);
    video_taken = h.video_taken;
    audio_taken = h.audio_taken;
    stepped = stepped_none job n steps rest Reset h.paths start r after (λ more goes. goes) h.stepped none;
  }

-- all steps are made
module _ (job : Job) (n : ℕ) (steps : List PlanStep) (holds : Side → List ℕ → Type 0) (start r : Rewind) (h : Reached job n steps [] holds start r) where
  emitted : Joins (PathEmits job n) steps no_paths h.video h.audio
  emitted =
      subst (λ v. Joins (PathEmits job n) steps no_paths v h.audio) (append-nil h.video)
      (subst (λ a. Joins (PathEmits job n) steps no_paths (h.video ++ []) a) (append-nil h.audio) (h.so_far [] [] (refl, refl)))

  pub reached_whole : PlayedWhole (Joins (PathEmits job n) steps no_paths) holds
  reached_whole = record { video = h.video; audio = h.audio; emitted = emitted; video_taken = h.video_taken; audio_taken = h.audio_taken }

  pub reached_rested : IsRested job n (after_steps steps no_paths) r
  reached_rested = subst (λ p. IsRested job n p r) h.leads h.rested

  pub reached_stepped : StepsByGoes job n steps start r
  reached_stepped = stepped_whole job n steps h.paths start r h.stepped

-- all bytes are the first ones
pub whole_is_first : (emits : List ℕ → List ℕ → Type 0) (holds : Side → List ℕ → Type 0) → PlayedWhole emits holds → PlayedFirst emits holds
whole_is_first emits holds h = record {
  video = h.video;
  audio = h.audio;
  emitted = h.emitted;
  video_count = length h.video;
  video_taken = subst (holds Console) (sym (take_all (length h.video) h.video (omega arith))) h.video_taken;
  audio_count = length h.audio;
  audio_taken = subst (holds Sound) (sym (take_all (length h.audio) h.audio (omega arith))) h.audio_taken;
}

-- ---- the slots that a plan names

slots_rise : (steps : List PlanStep) (n : ℕ) → n ≤ slots_from steps n
slots_rise [] n = omega arith
slots_rise (Go count pad1 pad2 ∷ rest) n = slots_rise rest n
slots_rise (Keep slot ∷ rest) n = let rises = slots_rise rest (max n (slot + 1)) in omega (arith, rises)
slots_rise (Reset ∷ rest) n = slots_rise rest n
slots_rise (Back slot ∷ rest) n = let rises = slots_rise rest (max n (slot + 1)) in omega (arith, rises)

names_from : (steps : List PlanStep) (n m : ℕ) → slots_from steps n ≤ m → NamesBelow m steps
names_from [] n m le = tt
names_from (Go count pad1 pad2 ∷ rest) n m le = names_from rest n m le
names_from (Keep slot ∷ rest) n m le = let rises = slots_rise rest (max n (slot + 1)) in (omega (arith, rises, le), names_from rest (max n (slot + 1)) m le)
names_from (Reset ∷ rest) n m le = names_from rest n m le
names_from (Back slot ∷ rest) n m le = let rises = slots_rise rest (max n (slot + 1)) in (omega (arith, rises, le), names_from rest (max n (slot + 1)) m le)

pub names_below : (steps : List PlanStep) (m : ℕ) → slots_of steps ≤ m → NamesBelow m steps
names_below steps m le = names_from steps 0 m le
