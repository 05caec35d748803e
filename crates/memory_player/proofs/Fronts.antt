-- What the slices hold after a run is what was played.
use Rattle.std.proofs.Common.{◌≡◌, ℕ, ◌≤◌, ◌<◌, min, List, [], ◌++◌, length, take, drop, Option, Result, Ok, Err, IfOk, IfErr, OnOk, refl, ap, sym, subst, subst₂, ◌∙◌, ⊎_elim, length-take, take-append-drop, take_all, take-take, drop_of_length-le, arith}
use Rattle.std.proofs.lemmas.Bool.{cases_order}
use Rattle.snes_defs.specs.declared.cart.Job.{Job}
use Rattle.snes_defs.specs.declared.ports.Side.{Side}
use Rattle.snes_defs.specs.declared.ports.Side.TheVariants.{Console, Sound}
use Rattle.shelf.specs.declared.shelves.Input.{Input}
use Rattle.snes_commands.specs.Job.{ShowsJob}
use Rattle.run_drive.specs.Played.{PlayedWhole, PlayedFirst}
use Rattle.memory_player.specs.declared.inputs.End.{End}
use Rattle.memory_player.specs.declared.inputs.End.TheVariants.{Frames, Refused, NoMemory, TooShort}
use Rattle.memory_player.specs.declared.filling.Filling.{Filling}
use Rattle.memory_player.specs.declared.slices.Slices.{Slices}
use Rattle.memory_player.specs.Filled.{in_front, Handed, OnlyFront}
use Rattle.memory_player.specs.Slices.{HoldsIn, IsOverfull, OnlyFilled, OnlyFills, ShortIn}
use Rattle.memory_player.specs.declared.slices.Counts.{Counts}
use Rattle.memory_player.specs.Inputs.{EndsInputs}
use Rattle.memory_player.specs.Played.{IsShort, FilledWhole, FilledShort, EndsFill, PlayedInto, PlayedShort, EndsShort}

-- a list has at least as many elements as its front
front_few : (n : ℕ) (l : List ℕ) → length (take n l) ≤ length l
front_few n l = omega (arith, length-take n l)

-- a front of a front is a front
front_of : (m n : ℕ) (l : List ℕ) → (k : ℕ) × (take m (take n l) ≡ take k l)
front_of m n l = ⊎_elim
    (λ same. (m, take-take m n l (omega arith)))
    (⊎_elim (λ less. (m, take-take m n l (omega arith))) (λ more. (n, take_all m (take n l) (omega (arith, length-take n l)))))
    (cases_order m n)

-- what is behind the bytes that fit is behind all of them
behind : (old bytes : List ℕ) → drop (length bytes) old ≡ drop (length (take (length old) bytes)) old
behind old bytes = ⊎_elim
    (λ same. ap (λ l. drop (length l) old) (sym (take_all (length old) bytes (omega arith))))
    (⊎_elim
    (λ less. ap (λ l. drop (length l) old) (sym (take_all (length old) bytes (omega arith))))
    (λ more. drop_of_length-le old {i = length bytes} (omega arith) ∙ sym (drop_of_length-le old {i = length (take (length old) bytes)} (omega (arith, length-take (length old) bytes)))))
    (cases_order (length bytes) (length old))

-- what was handed to a slice stands in front of it, as far as it fits
pub front_is : (old new bytes : List ℕ) (count : ℕ) → OnlyFront old new 0 count → Handed new count bytes → new ≡ in_front (take (length old) bytes) old
front_is old new bytes count only held =
    sym (take-append-drop count new)
    ∙ ap (λ l. l ++ drop count new) (held.front ∙ ap (λ n. take n bytes) only.size)
    ∙ ap (λ l. take (length old) bytes ++ l) (only.back ∙ ap (λ n. drop n old) held.count_is ∙ behind old bytes)

-- a run that was taken whole was taken up to its end
whole_first : (emits : List ℕ → List ℕ → Type 0) (holds : Side → List ℕ → Type 0) → PlayedWhole emits holds → PlayedFirst emits holds
whole_first emits holds h = record {
  video = h.video;
  audio = h.audio;
  emitted = h.emitted;
  video_count = length h.video;
  video_taken = subst (holds Console) (sym (take_all (length h.video) h.video (omega arith))) h.video_taken;
  audio_count = length h.audio;
  audio_taken = subst (holds Sound) (sym (take_all (length h.audio) h.audio (omega arith))) h.audio_taken;
}

module _ {video_old sound_old : List ℕ} {s t : Slices} (only : OnlyFills s t) (no_video : s.video.count ≡ 0) (no_sound : s.sound.count ≡ 0)
    (video_was : s.video.bytes.items ≡ video_old) (sound_was : s.sound.bytes.items ≡ sound_old) where
  -- the front of the slices, by the bytes that were handed to them
  video_front : (bytes : List ℕ) → HoldsIn t Console bytes → t.video.bytes.items ≡ in_front (take (length video_old) bytes) video_old
  video_front bytes held =
      front_is video_old t.video.bytes.items bytes t.video.count
      (subst₂ (λ l n. OnlyFront l t.video.bytes.items n t.video.count) video_was no_video only.video.front) held

  sound_front : (bytes : List ℕ) → HoldsIn t Sound bytes → t.sound.bytes.items ≡ in_front (take (length sound_old) bytes) sound_old
  sound_front bytes held =
      front_is sound_old t.sound.bytes.items bytes t.sound.count
      (subst₂ (λ l n. OnlyFront l t.sound.bytes.items n t.sound.count) sound_was no_sound only.sound.front) held

  video_size : length t.video.bytes.items ≡ length video_old
  video_size = only.video.front.size ∙ ap length video_was

  sound_size : length t.sound.bytes.items ≡ length sound_old
  sound_size = only.sound.front.size ∙ ap length sound_was

  -- all was taken, and both fit
  whole_fits : (emits : List ℕ → List ℕ → Type 0) (video_count sound_count : ℕ) → PlayedWhole emits (HoldsIn t) → t.video.count ≤ length t.video.bytes.items → t.sound.count ≤ length t.sound.bytes.items
      → video_count ≡ t.video.count → sound_count ≡ t.sound.count → FilledWhole emits video_old sound_old t.video.bytes.items t.sound.bytes.items video_count sound_count
  whole_fits emits video_count sound_count h video_fits sound_fits video_is sound_is = record {
    video = h.video;
    sound = h.audio;
    emitted = h.emitted;
    video_is = video_front h.video h.video_taken
        ∙ ap (λ l. in_front l video_old) (take_all (length video_old) h.video (omega (arith, video_fits, h.video_taken.count_is, video_size)));
    sound_is = sound_front h.audio h.audio_taken
        ∙ ap (λ l. in_front l sound_old) (take_all (length sound_old) h.audio (omega (arith, sound_fits, h.audio_taken.count_is, sound_size)));
    video_count_is = video_is ∙ h.video_taken.count_is;
    sound_count_is = sound_is ∙ h.audio_taken.count_is;
  }

  -- first bytes were taken, and a slice has no room for what came
  is_short : (emits : List ℕ → List ℕ → Type 0) (side : Side) (h : PlayedFirst emits (HoldsIn t)) → IsOverfull t side → IsShort video_old sound_old h.video h.audio side
  is_short emits Console h more = omega (arith, more, h.video_taken.count_is, video_size, front_few h.video_count h.video)
  is_short emits Sound h more = omega (arith, more, h.audio_taken.count_is, sound_size, front_few h.audio_count h.audio)

  pub first_short : (emits : List ℕ → List ℕ → Type 0) (side : Side) → PlayedFirst emits (HoldsIn t) → IsOverfull t side → FilledShort emits video_old sound_old t.video.bytes.items t.sound.bytes.items side
  first_short emits side h more =
      let video = front_of (length video_old) h.video_count h.video in
      let sound = front_of (length sound_old) h.audio_count h.audio in
      record {
        video = h.video;
        sound = h.audio;
        emitted = h.emitted;
        video_first = video.0;
        video_is = video_front _ h.video_taken ∙ ap (λ l. in_front l video_old) video.1;
        sound_first = sound.0;
        sound_is = sound_front _ h.audio_taken ∙ ap (λ l. in_front l sound_old) sound.1;
        short = is_short emits side h more;
      }

  -- all was taken: it is told how much, or which slice has no room for all
  pub counts_whole : (emits : List ℕ → List ℕ → Type 0) (r : Result Counts End) → PlayedWhole emits (HoldsIn t) → IfOk r (λ n. n.video ≡ t.video.count) → IfOk r (λ n. n.sound ≡ t.sound.count)
      → OnOk r (t.video.count ≤ length t.video.bytes.items) → OnOk r (t.sound.count ≤ length t.sound.bytes.items)
      → IfOk r (λ n. FilledWhole emits video_old sound_old t.video.bytes.items t.sound.bytes.items n.video n.sound)
  counts_whole emits (Ok n) h video_is sound_is video_fits sound_fits = whole_fits emits n.video n.sound h video_fits sound_fits video_is sound_is
  counts_whole emits (Err end) h video_is sound_is video_fits sound_fits = tt

  pub counts_short : (emits : List ℕ → List ℕ → Type 0) (r : Result Counts End) → PlayedWhole emits (HoldsIn t) → IfErr r (ShortIn t) → IfErr r (EndsFill emits video_old sound_old t.video.bytes.items t.sound.bytes.items)
  counts_short emits (Ok n) h short = tt
  counts_short emits (Err (TooShort side)) h short = first_short emits side (whole_first emits (HoldsIn t) h) short
  counts_short emits (Err Frames) h short = absurd short
  counts_short emits (Err (Refused cause)) h short = absurd short
  counts_short emits (Err NoMemory) h short = absurd short

-- what is said of some lists is said of those that equal them
pub whole_moved : (emits : List ℕ → List ℕ → Type 0) (r : Result Counts End) (v s w t v2 s2 w2 t2 : List ℕ) → IfOk r (λ n. FilledWhole emits v s w t n.video n.sound)
    → v ≡ v2 → s ≡ s2 → w ≡ w2 → t ≡ t2 → IfOk r (λ n. FilledWhole emits v2 s2 w2 t2 n.video n.sound)
whole_moved emits r v s w t v2 s2 w2 t2 h a b c d =
    subst (λ z. IfOk r (λ n. FilledWhole emits z s2 w2 t2 n.video n.sound)) a
    (subst (λ z. IfOk r (λ n. FilledWhole emits v z w2 t2 n.video n.sound)) b
    (subst (λ z. IfOk r (λ n. FilledWhole emits v s z t2 n.video n.sound)) c
    (subst (λ z. IfOk r (λ n. FilledWhole emits v s w z n.video n.sound)) d h)))

pub ends_moved : (emits : List ℕ → List ℕ → Type 0) (r : Result Counts End) (v s w t v2 s2 w2 t2 : List ℕ) → IfErr r (EndsFill emits v s w t)
    → v ≡ v2 → s ≡ s2 → w ≡ w2 → t ≡ t2 → IfErr r (EndsFill emits v2 s2 w2 t2)
ends_moved emits r v s w t v2 s2 w2 t2 h a b c d =
    subst (λ z. IfErr r (EndsFill emits z s2 w2 t2)) a
    (subst (λ z. IfErr r (EndsFill emits v z w2 t2)) b
    (subst (λ z. IfErr r (EndsFill emits v s z t2)) c
    (subst (λ z. IfErr r (EndsFill emits v s w z)) d h)))

-- nothing was handed to a slice at first
pub none_handed : (slice : List ℕ) (count : ℕ) → count ≡ 0 → Handed slice count []
none_handed slice count none = record {
  count_is = none;
  front = ap (λ n. take n slice) none ∙ sym (take_all (length slice) [] (omega arith));
}

pub ruleset fills = (none_handed)

-- an end of the reading is one of the whole
pub reading_ends : (emits : Job → List ℕ → List ℕ → Type 0) (told : Input → Option (List ℕ)) (frames : ℕ) (video sound : List ℕ) (end : End) → EndsInputs told end
    → EndsShort emits told frames video sound video sound end
reading_ends emits told frames video sound (Refused cause) h = (h, record { video = refl; sound = refl })
reading_ends emits told frames video sound NoMemory h = record { video = refl; sound = refl }
reading_ends emits told frames video sound Frames h = absurd h
reading_ends emits told frames video sound (TooShort side) h = absurd h

pub ruleset ends = (reading_ends)

-- the slices were filled with what a job emits, which the inputs make
pub played_into : (emits : Job → List ℕ → List ℕ → Type 0) (told : Input → Option (List ℕ)) (frames : ℕ) (video_old sound_old video_new sound_new : List ℕ) (job : Job) → ShowsJob told frames job
    → (r : Result Counts End) → IfOk r (λ n. FilledWhole (emits job) video_old sound_old video_new sound_new n.video n.sound)
    → IfOk r (λ n. PlayedInto emits told frames video_old sound_old video_new sound_new n.video n.sound)
played_into emits told frames video_old sound_old video_new sound_new job shows (Ok n) h = record { job = job; shows = shows; filled = h }
played_into emits told frames video_old sound_old video_new sound_new job shows (Err end) h = tt

pub played_short : (emits : Job → List ℕ → List ℕ → Type 0) (told : Input → Option (List ℕ)) (frames : ℕ) (video_old sound_old video_new sound_new : List ℕ) (job : Job) → ShowsJob told frames job
    → (r : Result Counts End) → IfErr r (EndsFill (emits job) video_old sound_old video_new sound_new)
    → IfErr r (EndsShort emits told frames video_old sound_old video_new sound_new)
played_short emits told frames video_old sound_old video_new sound_new job shows (Ok n) h = tt
played_short emits told frames video_old sound_old video_new sound_new job shows (Err (TooShort side)) h = record { job = job; shows = shows; filled = h }
played_short emits told frames video_old sound_old video_new sound_new job shows (Err Frames) h = absurd h
played_short emits told frames video_old sound_old video_new sound_new job shows (Err (Refused cause)) h = absurd h
played_short emits told frames video_old sound_old video_new sound_new job shows (Err NoMemory) h = record { video = h.0; sound = h.1 }
