-- What was read of a plan agrees with its paths: the reader takes a reset line where the path may have a reset.
use Rattle.std.proofs.Common.{◌≡◌, ℕ, ◌+◌, ◌-◌, ◌<◌, ◌≤◌, ◌==◌, ◌&&◌, ◌||◌, not, nat_le, nat_lt, nat_eq, min, Bool, true, false, List, [], ◌∷◌, ◌++◌, length, map, codes, slice_set, slice_index_or, Option, Some, None, Result, Ok, Err, length-set, refl, ap, sym, ◌∙◌, subst, ⊎_elim, arith, if◌then◌else◌}
use Rattle.std.specs.Str.{bytes_eq}
use Rattle.bstr.specs.Text.{lines_of, without_terminator}
use Rattle.std.proofs.lemmas.Bool.{cases_eq, lt-ltb, ltb-true, leb-true}
use Rattle.std.proofs.lemmas.Bool.Decides.{nat_tests}
use Rattle.std.proofs.lemmas.List.{get_or-set_same, get_or-set_other, get_or-replicate, length-replicate}
use Rattle.snes_defs.specs.declared.region.Region.{Region}
use Rattle.snes_defs.specs.declared.script.Span.{Span}
use Rattle.snes_defs.specs.Script.{RiseWithin, frames_of, is_reset}
use Rattle.input_files.specs.Fields.{span_of, word_of, behind}
use Rattle.input_files.specs.declared.plan.PlanStep.{PlanStep}
use Rattle.input_files.specs.declared.plan.PlanStep.TheVariants.{Go, Keep, Back, Reset}
use Rattle.input_files.specs.Plan.{PlanValue, PlanRead, no_plan, slot_of, region_named, after_go, after_keep, after_back, after_plan_reset, after_region, after_step_line, after_plan_line, plan_going_on, plan_on, plan_of}
use Rattle.plan_drive.specs.Paths.{Path, Paths, MayPress, no_paths, can_press, longer, reset_there, kept, after_step, after_steps}
use Rattle.plan_drive.proofs.Counting.{frames_more}
use Rattle.snapshot.proofs.Resets.{last_frame, rise_wider, rise_within, rise_snoc}
use Rattle.plan_laws.specs.Presses.{IsPress, AllPress}

-- ---- one step more

after_more : (steps : List PlanStep) (step : PlanStep) (p : Paths) → after_steps (steps ++ step ∷ []) p ≡ after_step (after_steps steps p) step
after_more [] step p = refl
after_more (s ∷ rest) step p = after_more rest step (after_step p s)

-- a step that is no reset, or is a press
abbrev Presses : PlanStep → Paths → Type 0
Presses (Go count pad1 pad2) p = Unit {0}
Presses (Keep slot) p = Unit {0}
Presses (Back slot) p = Unit {0}
Presses Reset p = IsPress p

press_last : (step : PlanStep) (p : Paths) → Presses step p → AllPress (step ∷ []) p
press_last (Go count pad1 pad2) p h = tt
press_last (Keep slot) p h = tt
press_last (Back slot) p h = tt
press_last Reset p h = (h, tt)

press_more : (steps : List PlanStep) (step : PlanStep) (p : Paths) → AllPress steps p → Presses step (after_steps steps p) → AllPress (steps ++ step ∷ []) p
press_more [] step p all here = press_last step p here
press_more (Go count pad1 pad2 ∷ rest) step p all here = press_more rest step (after_step p (Go count pad1 pad2)) all here
press_more (Keep slot ∷ rest) step p all here = press_more rest step (after_step p (Keep slot)) all here
press_more (Back slot ∷ rest) step p all here = press_more rest step (after_step p (Back slot)) all here
press_more (Reset ∷ rest) step p all here = (all.0, press_more rest step (after_step p Reset) all.1 here)

-- ---- a path, and whether the button may be pressed at its end

record Fits (most : ℕ) (may : Bool) (path : Path) : Type 0 where
  frames : frames_of path.spans ≤ most
  rise : RiseWithin 1 (frames_of path.spans) path.resets
  may_is : may ≡ can_press path

wider : (most more : ℕ) (may : Bool) (path : Path) → Fits most may path → Fits (most + more) may path
wider most more may path h = let le = h.frames in record { frames = omega (arith, le); rise = h.rise; may_is = h.may_is }

either_fits : (b : Bool) (most : ℕ) (may other : Bool) (p q : Path) → Fits most may p → Fits most other q
    → Fits most (if b then may else other) (if b then p else q)
either_fits true most may other p q h k = h
either_fits false most may other p q h k = k

-- numbers that rise up to some number are not behind it
none_behind : (least most : ℕ) (xs : List ℕ) (n : ℕ) → RiseWithin least most xs → most < n → is_reset xs n ≡ false
none_behind least most [] n h lt = refl
none_behind least most (x ∷ xs) n (above, below, rest) lt =
    ap (λ b. b || is_reset xs n) (differ x n below lt) ∙ none_behind (x + 1) most xs n rest lt
  where
    differ : (a b : ℕ) → a ≤ most → most < b → (a == b) ≡ false
    differ a b le behind = grind (arith, nat_tests)

-- a go
go_fits : (most : ℕ) (may : Bool) (path : Path) (span : Span) → Fits most may path
    → Fits (most + span.count) (nat_lt 0 span.count || may) (longer path span)
go_fits most may path span h =
    let more = frames_more path.spans span in
    let le = h.frames in
    record {
      frames = omega (arith, more, le);
      rise = subst (λ n. RiseWithin 1 n path.resets) (sym more) (rise_wider 1 (frames_of path.spans) span.count path.resets h.rise);
      may_is = ⊎_elim some none (cases_eq span.count 0);
    }
  where
    none : (span.count ≡ 0 → ⊥) → (nat_lt 0 span.count || may) ≡ can_press (longer path span)
    none some =
        let more = frames_more path.spans span in
        let count : nat_lt 0 span.count ≡ true = lt-ltb 0 span.count (omega (arith, some)) in
        let all : nat_lt 0 (frames_of (longer path span).spans) ≡ true = lt-ltb 0 _ (omega (arith, some, more)) in
        let free = none_behind 1 (frames_of path.spans) path.resets (frames_of (longer path span).spans) h.rise (omega (arith, some, more)) in
        ap (λ b. b || may) count ∙ sym (ap (λ b. b && not (is_reset path.resets (frames_of (longer path span).spans))) all ∙ ap (λ b. true && not b) free)

    some : span.count ≡ 0 → (nat_lt 0 span.count || may) ≡ can_press (longer path span)
    some zero =
        let more = frames_more path.spans span in
        let same : frames_of (longer path span).spans ≡ frames_of path.spans = omega (arith, more, zero) in
        ap (λ n. nat_lt 0 n || may) zero ∙ h.may_is
        ∙ sym (ap (λ n. nat_lt 0 n && not (is_reset path.resets n)) same)

-- a reset where it may be
both_true : (a b : Bool) → (a && not b) ≡ true → (a ≡ true) × (b ≡ false)
both_true true true e = cc
both_true true false e = (refl, refl)
both_true false b e = cc

may_so : (most : ℕ) (path : Path) → most ≤ 36000 → Fits most true path → MayPress path
may_so most path few h =
    let both = both_true (nat_lt 0 (frames_of path.spans)) (is_reset path.resets (frames_of path.spans)) (sym h.may_is) in
    let some = ltb-true 0 (frames_of path.spans) both.0 in
    let le = h.frames in
    rise_snoc 1 36000 path.resets (frames_of path.spans) h.rise both.1 (omega (arith, some)) (omega (arith, le, few))

reset_is : (p : Paths) → can_press p.path ≡ true → after_step p Reset ≡ reset_there p
reset_is p can =
    ap (λ b. record { path = record { spans = p.path.spans; resets = if b then p.path.resets ++ frames_of p.path.spans ∷ [] else p.path.resets }; held = p.held }) can

reset_fits : (most : ℕ) (p : Paths) → most ≤ 36000 → Fits most true p.path → Fits most false (after_step p Reset).path
reset_fits most p few h =
    let path = p.path in
    let frames = frames_of path.spans in
    let may = may_so most path few h in
    subst (λ q. Fits most false q.path) (sym (reset_is p (sym h.may_is))) (record {
      frames = h.frames;
      rise = rise_within 1 36000 path.resets frames may;
      may_is = sym (ap (λ b. nat_lt 0 frames && not b) (last_frame path.resets frames) ∙ no_more (nat_lt 0 frames));
    })
  where
    no_more : (b : Bool) → (b && false) ≡ false
    no_more true = refl
    no_more false = refl

-- ---- what was read

record Reads (r : PlanRead) : Type 0 where
  few : r.frames ≤ 36000
  size : length r.held ≡ 8
  path : Fits r.frames r.presses (after_steps r.steps no_paths).path
  held : (k : ℕ) → k < 8 → Fits r.frames (slice_index_or r.held k false) ((after_steps r.steps no_paths).held k)
  all : AllPress r.steps no_paths

nothing_fits : Fits 0 false (no_paths).path
nothing_fits = record { frames = omega arith; rise = tt; may_is = refl }

nothing_reads : Reads no_plan
nothing_reads = record {
  few = omega arith;
  size = length-replicate 8 false;
  path = nothing_fits;
  held = λ k lt. subst (λ b. Fits 0 b (no_paths).path) (sym (get_or-replicate 8 k false false lt)) nothing_fits;
  all = tt;
}

-- a slot is below 8
abbrev Within : Option ℕ → Type 0
Within None = Unit {0}
Within (Some slot) = slot < 8

slot_small : (text : List ℕ) → Within (slot_of text)
slot_small [] = tt
slot_small (d ∷ []) = go (nat_le 48 d && nat_le d 55) refl
  where
    go : (b : Bool) → (nat_le 48 d && nat_le d 55) ≡ b → Within (if b then Some (d - 48) else None)
    go true e = grind (arith, nat_tests)
    go false e = tt
slot_small (d ∷ (e ∷ rest)) = tt

-- what was read by a line, if it was taken
abbrev Holds : Option PlanRead → Type 0
Holds None = Unit {0}
Holds (Some r) = Reads r

either : (b : Bool) (x y : Option PlanRead) → Holds x → Holds y → Holds (if b then x else y)
either true x y h k = h
either false x y h k = k

-- the same paths with other data beside them
same_reads : (r q : PlanRead) → q.steps ≡ r.steps → q.frames ≡ r.frames → q.presses ≡ r.presses → q.held ≡ r.held → Reads r → Reads q
same_reads r q steps frames presses held h = record {
  few = subst (λ n. n ≤ 36000) (sym frames) h.few;
  size = ap length held ∙ h.size;
  path = subst (λ n. Fits n q.presses (after_steps q.steps no_paths).path) (sym frames)
      (subst (λ b. Fits r.frames b (after_steps q.steps no_paths).path) (sym presses)
      (subst (λ s. Fits r.frames r.presses (after_steps s no_paths).path) (sym steps) h.path));
  held = λ k lt. subst (λ n. Fits n (slice_index_or q.held k false) ((after_steps q.steps no_paths).held k)) (sym frames)
      (subst (λ l. Fits r.frames (slice_index_or l k false) ((after_steps q.steps no_paths).held k)) (sym held)
      (subst (λ s. Fits r.frames (slice_index_or r.held k false) ((after_steps s no_paths).held k)) (sym steps) (h.held k lt)));
  all = subst (λ s. AllPress s no_paths) (sym steps) h.all;
}

module _ (r : PlanRead) (h : Reads r) where
  abbrev paths : Paths
  paths = after_steps r.steps no_paths

  go_reads : (span : Option Span) → Holds (after_go r span)
  go_reads None = tt
  go_reads (Some span) = fits (nat_le (r.frames + span.count) 36000) refl
    where
      step : PlanStep
      step = Go span.count span.pad1 span.pad2

      fits : (b : Bool) → nat_le (r.frames + span.count) 36000 ≡ b → Holds (if b then Some (record r { steps = r.steps ++ step ∷ []; frames = r.frames + span.count; presses = nat_lt 0 span.count || r.presses }) else None)
      fits false off = tt
      fits true le =
          let next = sym (after_more r.steps step no_paths) in
          record {
            few = leb-true (r.frames + span.count) 36000 le;
            size = h.size;
            path = subst (λ (p : Paths). Fits (r.frames + span.count) (nat_lt 0 span.count || r.presses) p.path) next (go_fits r.frames r.presses paths.path span h.path);
            held = λ k lt. subst (λ (p : Paths). Fits (r.frames + span.count) (slice_index_or r.held k false) (p.held k)) next (wider r.frames span.count _ _ (h.held k lt));
            all = press_more r.steps step no_paths h.all tt;
          }

  keep_reads : (slot : Option ℕ) → Within slot → Holds (after_keep r slot)
  keep_reads None lt = tt
  keep_reads (Some slot) within =
      let next = sym (after_more r.steps (Keep slot) no_paths) in
      record {
        few = h.few;
        size = length-set r.held slot r.presses ∙ h.size;
        path = subst (λ (p : Paths). Fits r.frames r.presses p.path) next h.path;
        held = λ k lt. subst (λ (p : Paths). Fits r.frames (slice_index_or (slice_set r.held slot r.presses) k false) (p.held k)) next
            (⊎_elim (same k) (differ k lt) (cases_eq k slot));
        all = press_more r.steps (Keep slot) no_paths h.all tt;
      }
    where
      Kept : ℕ → Type 0
      Kept k = Fits r.frames (slice_index_or (slice_set r.held slot r.presses) k false) ((kept paths slot).held k)

      same : (k : ℕ) → k ≡ slot → Kept k
      same k e =
          let size = h.size in
          let on : (slot == slot) ≡ true = grind (arith, nat_tests) in
          let here : slice_index_or (slice_set r.held slot r.presses) slot false ≡ r.presses = get_or-set_same r.held slot r.presses false (omega (arith, within, size)) in
          subst Kept (sym e)
          (subst (λ b. Fits r.frames (slice_index_or (slice_set r.held slot r.presses) slot false) (if b then paths.path else paths.held slot)) {x = true} (sym on)
          (subst (λ m. Fits r.frames m paths.path) (sym here) h.path))

      differ : (k : ℕ) → k < 8 → (k ≡ slot → ⊥) → Kept k
      differ k lt ne =
          let off : (k == slot) ≡ false = grind (arith, nat_tests) in
          subst (λ b. Fits r.frames (slice_index_or (slice_set r.held slot r.presses) k false) (if b then paths.path else paths.held k)) {x = false} (sym off)
          (subst (λ m. Fits r.frames m (paths.held k)) (sym (get_or-set_other r.held slot k r.presses false ne)) (h.held k lt))

  back_reads : (slot : Option ℕ) → Within slot → Holds (after_back r slot)
  back_reads None lt = tt
  back_reads (Some slot) within =
      let next = sym (after_more r.steps (Back slot) no_paths) in
      either (slice_index_or r.kept slot false) (Some (record r { steps = r.steps ++ Back slot ∷ []; presses = slice_index_or r.held slot false })) None
      (record {
        few = h.few;
        size = h.size;
        path = subst (λ (p : Paths). Fits r.frames (slice_index_or r.held slot false) p.path) next (h.held slot within);
        held = λ k lt. subst (λ (p : Paths). Fits r.frames (slice_index_or r.held k false) (p.held k)) next (h.held k lt);
        all = press_more r.steps (Back slot) no_paths h.all tt;
      }) tt

  reset_reads : Holds (after_plan_reset r)
  reset_reads = presses r.presses refl
    where
      presses : (b : Bool) → r.presses ≡ b → Holds (if b then Some (record r { steps = r.steps ++ Reset ∷ []; presses = false }) else None)
      presses false off = tt
      presses true on =
          let next = sym (after_more r.steps Reset no_paths) in
          let here : Fits r.frames true paths.path = subst (λ b. Fits r.frames b paths.path) on h.path in
          record {
            few = h.few;
            size = h.size;
            path = subst (λ (p : Paths). Fits r.frames false p.path) next (reset_fits r.frames paths h.few here);
            held = λ k lt. subst (λ (p : Paths). Fits r.frames (slice_index_or r.held k false) (p.held k)) next (h.held k lt);
            all = press_more r.steps Reset no_paths h.all (record { may = may_so r.frames paths.path h.few here; puts = reset_is paths (sym here.may_is) });
          }

  region_reads : (region : Option Region) → Holds (after_region r region)
  region_reads None = tt
  region_reads (Some region) =
      either r.begun None (Some (record r { region = region; begun = true })) tt
      (same_reads r (record r { region = region; begun = true }) refl refl refl refl h)

  step_reads : (line : List ℕ) → Holds (after_step_line r line)
  unfolding after_step_line
  step_reads line =
      either (bytes_eq line (codes "reset")) (after_plan_reset r) _ reset_reads
      (either (bytes_eq (word_of line) (codes "go")) (after_go r (span_of (behind line))) _ (go_reads (span_of (behind line)))
      (either (bytes_eq (word_of line) (codes "keep")) (after_keep r (slot_of (behind line))) _ (keep_reads (slot_of (behind line)) (slot_small (behind line)))
      (either (bytes_eq (word_of line) (codes "back")) (after_back r (slot_of (behind line))) None (back_reads (slot_of (behind line)) (slot_small (behind line))) tt)))

line_reads : (r : PlanRead) (line : List ℕ) → Reads r → Holds (after_plan_line r line)
unfolding after_plan_line
line_reads r line h =
    either (nat_eq (length line) 0) (Some r) _ h
    (either (bytes_eq (word_of line) (codes "region")) (after_region r (region_named (behind line))) _ (region_reads r h (region_named (behind line)))
    (step_reads (record r { begun = true }) (same_reads r (record r { begun = true }) refl refl refl refl h) line))

-- a plan that was read
abbrev pub HoldsAll : Result PlanValue ℕ → Type 0
HoldsAll (Ok plan) = AllPress plan.steps no_paths
HoldsAll (Err line) = Unit {0}

lines_read : (lines : List (List ℕ)) (number : ℕ) (r : PlanRead) → Reads r → HoldsAll (plan_on lines number r)
lines_read [] number r h = h.all
lines_read (line ∷ rest) number r h =
    go (after_plan_line r line) (line_reads r line h) (lines_read rest (min (number + 1) 4294967295))
  where
    go : (o : Option PlanRead) → Holds o → ((q : PlanRead) → Reads q → HoldsAll (plan_on rest (min (number + 1) 4294967295) q))
        → HoldsAll (plan_going_on o number (plan_on rest (min (number + 1) 4294967295)))
    go None k on = tt
    go (Some q) k on = on q k

pub file_reads : (file : List ℕ) → HoldsAll (plan_of file)
unfolding plan_of
file_reads file = lines_read (map without_terminator (lines_of file)) 1 no_plan nothing_reads
