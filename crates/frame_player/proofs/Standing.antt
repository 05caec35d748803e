-- The moves of a rewinder, by what its console was told.
use Rattle.std.proofs.Common.{◌≡◌, ℕ, ◌+◌, ◌<◌, ◌≤◌, List, [], ◌∷◌, ◌++◌, length, length-append, ap, sym, ◌∙◌, subst, arith, slice_set, ⊎_elim}
use Rattle.std.proofs.lemmas.Bool.{cases_order}
use Rattle.std.proofs.lemmas.List.{length-set}
use Rattle.snes_defs.specs.declared.cart.Job.{Job}
use Rattle.snes_defs.specs.declared.ports.Side.{Side}
use Rattle.snes_defs.specs.declared.script.Span.{Span}
use Rattle.snes_defs.specs.Script.{RiseWithin, frames_of}
use Rattle.plan_drive.specs.Paths.{Path, Paths, MayPress, longer, pressed, gone, reset_there, kept, back}
use Rattle.snapshot.specs.declared.rewind.Rewind.{Rewind}
use Rattle.snapshot.specs.Positions.{IsRested, IsBeyond, slot_count}
use Rattle.snapshot.specs.Handed.{Gave}
use Rattle.frame_player.specs.Told.{Told, MayReset, gone_on, kept_in, back_to, pressed_in, way_of, path_of, path_told, spans_of}
use Rattle.frame_player.specs.Frames.{StandsAt, WentOn}
use Rattle.frame_player.proofs.Paths.{spans_more, spans_count, if_same, if_other, stored_same, stored_other}
use Rattle.frame_player.specs.Joined.{spans_frames}
use Rattle.frame_player.proofs.Jobs.{same_beyond}
use Rattle.snapshot.proofs.Resets.{rise_within, rise_few}

-- the present state is stored in a slot
pub kept_so : (told : Told) (r after : Rewind) (slot : ℕ) (h : StandsAt told r) → slot < length told.held
    → ((job : Job) (n : ℕ) (paths : Paths) → IsRested job n paths r → IsRested job n (kept paths slot) after) → slot_count after ≡ slot_count r
    → StandsAt (kept_in told slot) after
kept_so told r after slot h lt keeps same =
    let size : length (slice_set told.held slot (way_of told)) ≡ length told.held = length-set told.held slot (way_of told) in
    record {
      job = h.job;
      is = record { cart = h.is.cart; boot = h.is.boot; table = h.is.table; region = h.is.region };
      paths = kept h.paths slot;
      rested = keeps h.job told.most h.paths h.rested;
      path_is = h.path_is;
      held_are = λ k within. ⊎_elim
          (λ e. if_same k slot h.paths.path (h.paths.held k) e ∙ h.path_is ∙ ap path_of (sym (stored_same told.held slot k (way_of told) e lt)))
          (λ differ. let ne : ¬ (k ≡ slot) = λ e. ⊎_elim (λ l. omega (arith, l, e)) (λ g. omega (arith, g, e)) differ in
          if_other k slot h.paths.path (h.paths.held k) ne ∙ h.held_are k (omega (arith, within, size))
          ∙ ap path_of (sym (stored_other told.held slot k (way_of told) ne)))
          (cases_order k slot);
      slots = same ∙ h.slots ∙ sym size;
      slots_few = let few = h.slots_few in omega (arith, few, size);
      few = h.few;
    }

-- a slot's state becomes the present one
pub back_so : (told : Told) (r after : Rewind) (slot : ℕ) (h : StandsAt told r) → slot < length told.held
    → ((job : Job) (n : ℕ) (paths : Paths) → IsRested job n paths r → IsRested job n (back paths slot) after) → slot_count after ≡ slot_count r
    → StandsAt (back_to told slot) after
back_so told r after slot h lt backs same = record {
  job = h.job;
  is = record { cart = h.is.cart; boot = h.is.boot; table = h.is.table; region = h.is.region };
  paths = back h.paths slot;
  rested = backs h.job told.most h.paths h.rested;
  path_is = h.held_are slot lt;
  held_are = h.held_are;
  slots = same ∙ h.slots;
  slots_few = h.slots_few;
  few = h.few;
}

-- nothing was handed out before a frame
abbrev pub no_bytes : Side → List ℕ
no_bytes side = []

-- what a rewinder has to be for a frame
pub can_go : (told : Told) (r : Rewind) (span : Span) (h : StandsAt told r) → span.count ≡ 1 → length told.pads < told.most
    → (length h.paths.path.spans < told.most) × (frames_of h.paths.path.spans + span.count ≤ 36000)
can_go told r span h one lt =
    let count = ap (λ (p : Path). length p.spans) h.path_is ∙ spans_count told.pads in
    let frames = ap (λ (p : Path). frames_of p.spans) h.path_is ∙ spans_frames told.pads in
    let few = h.few in (omega (arith, count, lt), omega (arith, frames, lt, few, one))

-- a frame was played
pub went : (told : Told) (r after : Rewind) (span : Span) (holds : Side → List ℕ → Type 0) (h : StandsAt told r) → span.count ≡ 1
    → Gave h.job told.most (gone h.paths span) h.paths.path no_bytes holds after → slot_count after ≡ slot_count r
    → WentOn told span.pad1 span.pad2 holds after
went told r after span holds h one gave same =
    let before = h.path_is in
    let next = path_told (gone_on told span.pad1 span.pad2) in
    let goes : longer h.paths.path span ≡ next =
    ap (λ c. longer h.paths.path (record { count = c; pad1 = span.pad1; pad2 = span.pad2 })) one
    ∙ ap (λ p. longer p (record { count = 1; pad1 = span.pad1; pad2 = span.pad2 })) before
    ∙ ap (λ v. record { spans = v; resets = told.resets }) (sym (spans_more told.pads (span.pad1, span.pad2))) in
    record {
      picture = gave.video;
      samples = gave.audio;
      is = λ job is. same_beyond told h.job job told.most (path_told told) next gave.video gave.audio h.is is
          (subst (λ b. IsBeyond h.job told.most b next gave.video gave.audio) before
          (subst (λ p. IsBeyond h.job told.most h.paths.path p gave.video gave.audio) goes gave.beyond));
      picture_taken = gave.video_taken;
      samples_taken = gave.audio_taken;
      stands = record {
        job = h.job;
        is = record { cart = h.is.cart; boot = h.is.boot; table = h.is.table; region = h.is.region };
        paths = gone h.paths span;
        rested = gave.rested;
        path_is = goes;
        held_are = h.held_are;
        slots = same ∙ h.slots;
        slots_few = h.slots_few;
        few = h.few;
      };
    }

-- ---- the button

-- it may be pressed at the path's end where it may by what was told
pub may_told : (told : Told) (r : Rewind) (h : StandsAt told r) → MayPress h.paths.path → MayReset told
may_told told r h may =
    subst (λ m. RiseWithin 1 36000 (told.resets ++ m ∷ [])) (spans_frames told.pads) (subst (λ (p : Path). MayPress p) h.path_is may)

pub may_press : (told : Told) (r : Rewind) (h : StandsAt told r) → MayReset told → MayPress h.paths.path
may_press told r h may =
    subst (λ (p : Path). MayPress p) (sym h.path_is) (subst (λ m. RiseWithin 1 36000 (told.resets ++ m ∷ [])) (sym (spans_frames told.pads)) may)

-- there is room for one more
pub reset_fits : (told : Told) (r : Rewind) (h : StandsAt told r) → MayPress h.paths.path → length h.paths.path.resets < told.most
reset_fits told r h may =
    let (video, audio, d) = h.rested.now in
    let path = h.paths.path in
    let within = rise_within 1 36000 path.resets (frames_of path.spans) may in
    let few = rise_few 1 (frames_of path.spans) (path.resets ++ frames_of path.spans ∷ []) (omega arith) within in
    let size = length-append path.resets (frames_of path.spans ∷ []) in
    let frames = ap (λ (p : Path). frames_of p.spans) h.path_is ∙ spans_frames told.pads in
    let count = ap (λ (p : Path). length p.spans) h.path_is ∙ spans_count told.pads in
    let room = d.room in
    omega (arith, few, size, frames, count, room)

pub pressed_so : (told : Told) (r after : Rewind) (h : StandsAt told r)
    → ((job : Job) (n : ℕ) (paths : Paths) → IsRested job n paths r → IsRested job n (reset_there paths) after) → slot_count after ≡ slot_count r
    → StandsAt (pressed_in told) after
pressed_so told r after h presses same = record {
  job = h.job;
  is = record { cart = h.is.cart; boot = h.is.boot; table = h.is.table; region = h.is.region };
  paths = reset_there h.paths;
  rested = presses h.job told.most h.paths h.rested;
  path_is = ap pressed h.path_is ∙ ap (λ m. record { spans = spans_of told.pads; resets = told.resets ++ m ∷ [] }) (spans_frames told.pads);
  held_are = h.held_are;
  slots = same ∙ h.slots;
  slots_few = h.slots_few;
  few = h.few;
}

-- ---- a console

-- a path has as many frames as pads
pub frames_are : (told : Told) (r : Rewind) (h : StandsAt told r) → frames_of h.paths.path.spans ≡ length told.pads
frames_are told r h = ap (λ (p : Path). frames_of p.spans) h.path_is ∙ spans_frames told.pads

-- how many frames were played, by what the rewinder says
pub played_are : (told : Told) (r : Rewind) (result : ℕ) → StandsAt told r
    → ((job : Job) (n : ℕ) (paths : Paths) → IsRested job n paths r → result ≡ frames_of paths.path.spans) → result ≡ length told.pads
played_are told r result h says = says h.job told.most h.paths h.rested ∙ frames_are told r h
