-- Frames that were played, the spans of one frame each that they tell, and other scripts with their pads.
use Rattle.std.proofs.Common.{◌≡◌, ℕ, zero, suc, ◌+◌, ◌-◌, ◌<◌, ◌≤◌, Bool, true, false, List, [], ◌∷◌, ◌++◌, length}
use Rattle.std.proofs.Common.{refl, ap, sym, subst, ◌∙◌, append_assoc, append-nil, length-append, arith, ltb, if◌then◌else◌}
use Rattle.std.proofs.lemmas.Bool.Decides.{nat_tests}
use Rattle.snes_defs.specs.declared.cart.Job.{Job}
use Rattle.snes_defs.specs.declared.profile.Profile.{Profile}
use Rattle.snes_defs.specs.declared.profile.Profile.TheVariants.{First}
use Rattle.snes_defs.specs.declared.script.Span.{Span}
use Rattle.snes_defs.specs.Script.{frames_of, pads_at}
use Rattle.clock_ratio.specs.Stamp.{end_stamp_of}
use Rattle.side_law.specs.Serial.{serial_of}
use Rattle.side_law.specs.SerialRun.{IsOutput}
use Rattle.console_steps.specs.ConsoleState.{console_moves, console_start}
use Rattle.audio_side.specs.Sound.{sound_start, sound_moves}
use Rattle.plan_drive.specs.Paths.{Path}
use Rattle.snapshot.specs.Path.{PathEmits}
use Rattle.job_player.specs.Start.{Emits}
use Rattle.frame_player.specs.Told.{Told, IsJobOf, gone_on, spans_of}
use Rattle.frame_player.specs.Joined.{Frame, ArePlayed, reset_if, told_after, pictures_of, samples_of, frames_from_first}
use Rattle.frame_player_laws.specs.Scripts.{HasPadsOf, ArePlayedWith, pads_played, presses_from}
use Rattle.frame_player_laws.proofs.SamePads.{same_pads, same_job}

-- ---- the pads of a frame of the first span, and of one behind it

abbrev both : ℕ → ℕ → ℕ × ℕ
both pad1 pad2 = (pad1, pad2)

pads_first : (span : Span) (rest : List Span) (n : ℕ) → n < span.count
    → pads_at (span ∷ rest) n ≡ both span.pad1 span.pad2
pads_first span rest n lt = go (ltb n span.count) refl
  where
    go : (b : Bool) → ltb n span.count ≡ b
        → (if b then both span.pad1 span.pad2 else pads_at rest (n - span.count)) ≡ both span.pad1 span.pad2
    go true e = refl
    go false e = absurd (grind (arith, nat_tests, lt, e))

pads_behind : (span : Span) (rest : List Span) (n : ℕ) → span.count ≤ n
    → pads_at (span ∷ rest) n ≡ pads_at rest (n - span.count)
pads_behind span rest n ge = go (ltb n span.count) refl
  where
    go : (b : Bool) → ltb n span.count ≡ b
        → (if b then both span.pad1 span.pad2 else pads_at rest (n - span.count)) ≡ pads_at rest (n - span.count)
    go true e = absurd (grind (arith, nat_tests, ge, e))
    go false e = refl

-- ---- what frames tell

abbrev pads_list : List Frame → List (ℕ × ℕ)
pads_list [] = []
pads_list (f ∷ rest) = (f.pad1, f.pad2) ∷ pads_list rest

-- the pads of the frames, behind those that were told before
told_pads : (told : Told) (frames : List Frame) → (told_after told frames).pads ≡ told.pads ++ pads_list frames
told_pads told [] = sym (append-nil told.pads)
told_pads told (f ∷ rest) =
    told_pads (gone_on (reset_if f.reset told) f.pad1 f.pad2) rest
    ∙ ap (λ v. (v ++ (f.pad1, f.pad2) ∷ []) ++ pads_list rest) (same_told f.reset told)
    ∙ append_assoc told.pads ((f.pad1, f.pad2) ∷ []) (pads_list rest)
  where
    same_told : (b : Bool) (t : Told) → (reset_if b t).pads ≡ t.pads
    same_told true t = refl
    same_told false t = refl

-- and the frames before which the button was pressed
told_resets : (told : Told) (frames : List Frame)
    → (told_after told frames).resets ≡ told.resets ++ presses_from (length told.pads) frames
told_resets told [] = sym (append-nil told.resets)
told_resets told (f ∷ rest) =
    told_resets (gone_on (reset_if f.reset told) f.pad1 f.pad2) rest
    ∙ ap (λ n. (reset_if f.reset told).resets ++ presses_from n rest) (one_longer f.reset told)
    ∙ here f.reset told (presses_from (length told.pads + 1) rest)
  where
    one_longer : (b : Bool) (t : Told) → length ((reset_if b t).pads ++ (f.pad1, f.pad2) ∷ []) ≡ length t.pads + 1
    one_longer true t = length-append t.pads ((f.pad1, f.pad2) ∷ [])
    one_longer false t = length-append t.pads ((f.pad1, f.pad2) ∷ [])

    here : (b : Bool) (t : Told) (more : List ℕ)
        → (reset_if b t).resets ++ more ≡ t.resets ++ ((if b then length t.pads ∷ [] else []) ++ more)
    here true t more = append_assoc t.resets (length t.pads ∷ []) more
    here false t more = refl

-- a span for each frame
abbrev spans_played : List Frame → List Span
spans_played frames = spans_of (pads_list frames)

spans_last : (frames : List Frame) → frames_of (spans_played frames) ≡ length frames
spans_last [] = refl
spans_last (f ∷ rest) = omega (arith, spans_last rest)

spans_pads : (frames : List Frame) (k : ℕ) → pads_at (spans_played frames) k ≡ pads_played frames k
spans_pads [] k = refl
spans_pads (f ∷ rest) zero = refl
spans_pads (f ∷ rest) (suc k) =
    let before : suc k - 1 ≡ k = omega arith in
    pads_behind (record { count = 1; pad1 = f.pad1; pad2 = f.pad2 }) (spans_played rest) (suc k) (omega arith)
    ∙ ap (pads_at (spans_played rest)) before ∙ spans_pads rest k

-- other spans with the pads of the frames have those of these spans
pads_same : (frames : List Frame) (spans : List Span) → HasPadsOf spans frames
    → (k : ℕ) → k < frames_of (spans_played frames) → pads_at spans k ≡ pads_at (spans_played frames) k
pads_same frames spans h k lt = h k (subst (λ n. k < n) (spans_last frames) lt) ∙ sym (spans_pads frames k)

-- ---- the laws

module _ (told : Told) (frames : List Frame) (job : Job) (none : told.pads ≡ []) (no_resets : told.resets ≡ []) (is : IsJobOf told job)
    (played : ArePlayed told frames) (few : length frames ≤ 36000) where
  most : ℕ
  most = (told_after told frames).most

  few_spans : frames_of (spans_played frames) ≤ 36000
  few_spans = subst (λ k. k ≤ 36000) (sym (spans_last frames)) few

  -- the law of joined frames, by the pads of the frames
  path_played : Path
  path_played = record { spans = spans_played frames; resets = presses_from 0 frames }

  by_frames : PathEmits job most path_played (pictures_of frames) (samples_of frames)
  unfolding most path_played
  by_frames =
      let resets = told_resets told frames ∙ ap (λ v. v ++ presses_from (length told.pads) frames) no_resets
      ∙ ap (λ v. presses_from (length v) frames) none in
      let pads = told_pads told frames ∙ ap (λ p. p ++ pads_list frames) none in
      subst (λ r. PathEmits job (told_after told frames).most (record { spans = spans_played frames; resets = r }) (pictures_of frames) (samples_of frames)) resets
      (subst (λ p. PathEmits job (told_after told frames).most (record { spans = spans_of p; resets = (told_after told frames).resets }) (pictures_of frames) (samples_of frames)) pads
      (frames_from_first told frames job none is played))

  pub any_script : (n : ℕ) (path : Path) → frames_of path.spans ≡ length frames → HasPadsOf path.spans frames
      → path.resets ≡ presses_from 0 frames → PathEmits job n path (pictures_of frames) (samples_of frames)
  unfolding path_played
  any_script n path lasts h resets =
      same_pads job most n path_played path (pictures_of frames) (samples_of frames)
      (record { lasts = spans_last frames ∙ sym lasts; pads = λ k lt. sym (pads_same frames path.spans h k lt) })
      resets few_spans by_frames

  pub any_job : job.script.profile ≡ First → job.frames ≡ length frames → job.script.resets ≡ presses_from 0 frames → HasPadsOf job.script.spans frames
      → Emits job (pictures_of frames) (samples_of frames)
  unfolding path_played
  any_job profile lasts resets h =
      let video = pictures_of frames in
      let audio = samples_of frames in
      let Emitted : Profile → ℕ → Type 0
      = λ own count. IsOutput console_moves sound_moves
      (serial_of (console_start job.cart (record job.script { profile = own }) job.region)
      (sound_start job.region own job.script.resets job.boot job.table))
      (end_stamp_of job.region count) video audio in
      let by_script : Emitted First (frames_of (spans_played frames))
      = same_job job most path_played job.script resets (pads_same frames job.script.spans h)
      video audio few_spans by_frames in
      subst (λ own. Emitted own job.frames) (sym profile) (subst (Emitted First) (spans_last frames ∙ sym lasts) by_script)

-- ---- one span

played_with : (pad1 pad2 : ℕ) (frames : List Frame) (k : ℕ) → ArePlayedWith pad1 pad2 frames → k < length frames
    → pads_played frames k ≡ both pad1 pad2
played_with pad1 pad2 [] k held lt = absurd (omega (arith, lt))
played_with pad1 pad2 (f ∷ rest) zero held lt =
    ap (λ p. (p, f.pad2)) held.0 ∙ ap (λ p. (pad1, p)) held.1
played_with pad1 pad2 (f ∷ rest) (suc k) held lt = played_with pad1 pad2 rest k held.2 (omega (arith, lt))

pub one_span : (pad1 pad2 : ℕ) (frames : List Frame) → ArePlayedWith pad1 pad2 frames
    → HasPadsOf (record { count = length frames; pad1 = pad1; pad2 = pad2 } ∷ []) frames
one_span pad1 pad2 frames held = λ k lt.
    pads_first (record { count = length frames; pad1 = pad1; pad2 = pad2 }) [] k lt
    ∙ sym (played_with pad1 pad2 frames k held lt)
