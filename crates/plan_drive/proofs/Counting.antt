-- How long the steps of a plan are, counted one after another.
use Rattle.std.proofs.Common.{◌≡◌, ℕ, ◌+◌, ◌-◌, ◌*◌, ◌<◌, ◌≤◌, ◌==◌, true, false, List, [], ◌∷◌, ◌++◌, length, slice_set, slice_index_or, replicate, drop, drop-cons, suc, refl, ap, sym, ◌∙◌, subst, ⊎_elim, arith, if◌then◌else◌, length-set}
use Rattle.std.proofs.lemmas.Bool.{cases_eq}
use Rattle.std.proofs.lemmas.Bool.Decides.{nat_tests}
use Rattle.std.proofs.lemmas.List.{get_or-set_same, get_or-set_other, get_or-replicate}
use Rattle.snes_defs.specs.declared.region.Region.{Region}
use Rattle.snes_defs.specs.declared.region.Region.TheVariants.{Ntsc, Pal}
use Rattle.snes_defs.specs.declared.script.Span.{Span}
use Rattle.snes_defs.specs.Script.{frames_of}
use Rattle.input_files.specs.declared.plan.PlanStep.{PlanStep}
use Rattle.input_files.specs.declared.plan.PlanStep.TheVariants.{Go, Keep, Back, Reset}
use Rattle.input_files.specs.Plan.{frames_in}
use Rattle.plan_drive.specs.Paths.{Paths, no_paths, kept, after_step}
use Rattle.plan_drive.specs.Samples.{samples_to, samples_in}

-- one span more
pub frames_more : (path : List Span) (span : Span) → frames_of (path ++ span ∷ []) ≡ frames_of path + span.count
frames_more [] span = omega arith
frames_more (p ∷ path) span = let more = frames_more path span in omega (arith, more)

-- more frames have more samples, at most 641 a frame
pub samples_rise : (region : Region) (a c : ℕ) → samples_to region a ≤ samples_to region (a + c)
samples_rise Ntsc a c = omega arith
samples_rise Pal a c = omega arith

pub samples_few : (region : Region) (a c : ℕ) → samples_to region (a + c) - samples_to region a ≤ 641 * c
samples_few Ntsc a c = omega arith
samples_few Pal a c = omega arith

-- a path, and the path that each slot holds, by how many frames they last
pub record Lasts (paths : Paths) (path : ℕ) (held : List ℕ) (most : ℕ) : Type 0 where
  pub size : length held ≡ 8
  pub path_is : path ≡ frames_of paths.path.spans
  pub path_most : path ≤ most
  pub held_is : (slot other : ℕ) → slot < 8 → slice_index_or held slot other ≡ frames_of (paths.held slot).spans
  pub held_most : (slot other : ℕ) → slot < 8 → slice_index_or held slot other ≤ most

-- some steps were counted, and the rest is left
pub record Counted (region : Region) (steps rest : List PlanStep) (frames samples path : ℕ) (held : List ℕ) : Type 0 where
  pub paths : Paths
  pub lasts : Lasts paths path held frames
  pub frames_left : frames + frames_in rest ≡ frames_in steps
  pub samples_left : samples + samples_in region rest paths ≡ samples_in region steps no_paths
  pub few : samples ≤ 641 * frames

pub counted_first : (region : Region) (steps : List PlanStep) → Counted region steps steps 0 0 0 (replicate 8 0)
counted_first region steps = record {
  paths = no_paths;
  lasts = record {
    size = refl;
    path_is = refl;
    path_most = omega arith;
    held_is = λ slot other lt. get_or-replicate 8 slot 0 other lt;
    held_most = λ slot other lt. let is = get_or-replicate 8 slot 0 other lt in omega (arith, is);
  };
  frames_left = omega arith;
  samples_left = omega arith;
  few = omega arith;
}

module _ (region : Region) (steps rest : List PlanStep) (frames samples path : ℕ) (held : List ℕ) where
  pub counted_go : (count pad1 pad2 : ℕ) → Counted region steps (Go count pad1 pad2 ∷ rest) frames samples path held
      → Counted region steps rest (frames + count) (samples + (samples_to region (path + count) - samples_to region path)) (path + count) held
  counted_go count pad1 pad2 h =
      let span : Span = record { count = count; pad1 = pad1; pad2 = pad2 } in
      let more = frames_more h.paths.path.spans span in
      let is = h.lasts.path_is in
      let most = h.lasts.path_most in
      let frames_left = h.frames_left in
      let few = h.few in
      let rises = samples_few region path count in
      let went : (samples_to region (frames_of h.paths.path.spans + count) - samples_to region (frames_of h.paths.path.spans)) ≡ samples_to region (path + count) - samples_to region path
      = ap (λ n. samples_to region (n + count) - samples_to region n) (sym is) in
      let left : samples + ((samples_to region (frames_of h.paths.path.spans + count) - samples_to region (frames_of h.paths.path.spans)) + samples_in region rest (after_step h.paths (Go count pad1 pad2))) ≡ samples_in region steps no_paths = h.samples_left in
      record {
        paths = after_step h.paths (Go count pad1 pad2);
        lasts = record {
          size = h.lasts.size;
          path_is = omega (arith, more, is);
          path_most = omega (arith, most);
          held_is = h.lasts.held_is;
          held_most = λ slot other lt. let le = h.lasts.held_most slot other lt in omega (arith, le);
        };
        frames_left = omega (arith, frames_left);
        samples_left = add_assoc samples _ _ ∙ ap (λ n. samples + (n + samples_in region rest (after_step h.paths (Go count pad1 pad2)))) (sym went) ∙ left;
        few = omega (arith, few, rises);
      }
    where
      add_assoc : (a b c : ℕ) → (a + b) + c ≡ a + (b + c)
      add_assoc a b c = omega arith

  pub counted_keep : (slot : ℕ) → slot < 8 → Counted region steps (Keep slot ∷ rest) frames samples path held → Counted region steps rest frames samples path (slice_set held slot path)
  counted_keep slot within h = record {
    paths = kept h.paths slot;
    lasts = record {
      size = length-set held slot path ∙ h.lasts.size;
      path_is = h.lasts.path_is;
      path_most = h.lasts.path_most;
      held_is = λ k other lt. ⊎_elim (same k other) (differ k other lt) (cases_eq k slot);
      held_most = λ k other lt. ⊎_elim (λ e. subst (λ j. slice_index_or (slice_set held slot path) j other ≤ frames) (sym e) (subst (λ n. n ≤ frames) (sym (set_here other)) h.lasts.path_most))
          (λ ne. subst (λ n. n ≤ frames) (sym (get_or-set_other held slot k path other ne)) (h.lasts.held_most k other lt)) (cases_eq k slot);
    };
    frames_left = h.frames_left;
    samples_left = h.samples_left;
    few = h.few;
  }
    where
      set_here : (other : ℕ) → slice_index_or (slice_set held slot path) slot other ≡ path
      set_here other = let size = h.lasts.size in get_or-set_same held slot path other (omega (arith, within, size))

      same : (k other : ℕ) → k ≡ slot → slice_index_or (slice_set held slot path) k other ≡ frames_of ((kept h.paths slot).held k).spans
      same k other e =
          let on : (slot == slot) ≡ true = grind (arith, nat_tests) in
          subst (λ j. slice_index_or (slice_set held slot path) j other ≡ frames_of ((kept h.paths slot).held j).spans) (sym e)
          (subst (λ b. slice_index_or (slice_set held slot path) slot other ≡ frames_of (if b then h.paths.path else h.paths.held slot).spans) {x = true} (sym on) (set_here other ∙ h.lasts.path_is))

      differ : (k other : ℕ) → k < 8 → (k ≡ slot → ⊥) → slice_index_or (slice_set held slot path) k other ≡ frames_of ((kept h.paths slot).held k).spans
      differ k other lt ne =
          let off : (k == slot) ≡ false = grind (arith, nat_tests) in
          subst (λ b. slice_index_or (slice_set held slot path) k other ≡ frames_of (if b then h.paths.path else h.paths.held k).spans) {x = false} (sym off)
          (get_or-set_other held slot k path other ne ∙ h.lasts.held_is k other lt)

  pub counted_back : (slot other : ℕ) → slot < 8 → Counted region steps (Back slot ∷ rest) frames samples path held → Counted region steps rest frames samples (slice_index_or held slot other) held
  counted_back slot other within h = record {
    paths = after_step h.paths (Back slot);
    lasts = record {
      size = h.lasts.size;
      path_is = h.lasts.held_is slot other within;
      path_most = h.lasts.held_most slot other within;
      held_is = h.lasts.held_is;
      held_most = h.lasts.held_most;
    };
    frames_left = h.frames_left;
    samples_left = h.samples_left;
    few = h.few;
  }

module _ (region : Region) (steps rest : List PlanStep) (frames samples path : ℕ) (held : List ℕ) where
  pub counted_reset : Counted region steps (Reset ∷ rest) frames samples path held → Counted region steps rest frames samples path held
  counted_reset h = record {
    paths = after_step h.paths Reset;
    lasts = record { size = h.lasts.size; path_is = h.lasts.path_is; path_most = h.lasts.path_most; held_is = h.lasts.held_is; held_most = h.lasts.held_most };
    frames_left = h.frames_left;
    samples_left = h.samples_left;
    few = h.few;
  }

pub counted_all : (region : Region) (steps : List PlanStep) (frames samples path : ℕ) (held : List ℕ) → Counted region steps [] frames samples path held
    → (frames ≡ frames_in steps) × (samples ≡ samples_in region steps no_paths)
counted_all region steps frames samples path held h = let f = h.frames_left in let s = h.samples_left in (omega (arith, f), omega (arith, s))

pub counted_same : (region : Region) (steps rest : List PlanStep) (frames samples path later_frames later_samples later_path : ℕ) (held later_held : List ℕ)
    → later_frames ≡ frames → later_samples ≡ samples → later_path ≡ path → later_held ≡ held
    → Counted region steps rest frames samples path held → Counted region steps rest later_frames later_samples later_path later_held
counted_same region steps rest frames samples path later_frames later_samples later_path held later_held f s p e h =
    subst (λ x. Counted region steps rest x later_samples later_path later_held) (sym f)
    (subst (λ x. Counted region steps rest frames x later_path later_held) (sym s)
    (subst (λ x. Counted region steps rest frames samples x later_held) (sym p)
    (subst (λ x. Counted region steps rest frames samples path x) (sym e) h)))

-- the step at a place is the first of those from there on
pub next_step : (steps : List PlanStep) (i : ℕ) (other step : PlanStep) → i < length steps → slice_index_or steps i other ≡ step → drop i steps ≡ step ∷ drop (i + 1) steps
next_step steps i other step within is =
    let one : suc i ≡ i + 1 = omega arith in
    drop-cons steps i other within ∙ ap (λ s. s ∷ drop (suc i) steps) is ∙ ap (λ n. step ∷ drop n steps) one
