-- Machines of a path that are copied into those of another path of the same job.
use Rattle.std.proofs.Common.{◌≡◌, ℕ, ◌+◌, ◌<◌, ◌≤◌, ◌==◌, true, false, List, drop, length, slice_set, slice_index_or, ap, sym, ◌∙◌, subst, ⊎_elim, arith, if◌then◌else◌, length-set}
use Rattle.std.proofs.lemmas.List.{get_or-set_same, get_or-set_other}
use Rattle.std.proofs.lemmas.Bool.{cases_eq}
use Rattle.std.proofs.lemmas.Bool.Decides.{nat_tests}
use Rattle.snes_defs.specs.declared.cart.Job.{Job}
use Rattle.snes_defs.specs.Script.{frames_of}
use Rattle.console_bus.specs.BusState.{BusState, board_of}
use Rattle.console_machine.specs.Playing.{rest_with_room}
use Rattle.audio_side.specs.HardwareState.{table_of}
use Rattle.audio_side.specs.Playing.{clock_with_room}
use Rattle.snapshot.specs.declared.run.Run.{Run}
use Rattle.plan_drive.specs.Paths.{Path, Paths, kept, back, path_script}
use Rattle.snapshot.specs.Path.{start_of, end_of_path}
use Rattle.snapshot.specs.declared.rewind.Rewind.{Rewind}
use Rattle.snapshot.specs.Positions.{IsDone, IsRested, CanCopy, HoldsPath, copy_of}
use Rattle.snapshot.proofs.Effects.{rom_of}
use Rattle.snapshot.proofs.Numbers.{ends_within}
use Rattle.snapshot.proofs.Runs.{own_at, starts_own, turns_keep}

pub done_own : (job : Job) (n : ℕ) (path : Path) (r : Run) (video audio : List ℕ) (d : IsDone job n path r video audio) → own_at job n path d.at
done_own job n path r video audio d =
    subst (λ w. own_at job n path w) d.underway.now_is
    (turns_keep job.region (board_of job.cart) (path_script job.region n path) job.cart.rom job.boot (table_of job.table) (end_of_path job.region path) (start_of job n path) d.underway.turns (ends_within job.region (frames_of path.spans) d.few) (starts_own job n path) d.underway.not_past)

pub done_script : (job : Job) (n : ℕ) (path : Path) (r : Run) (video audio : List ℕ) → IsDone job n path r video audio → r.serial.console.rest.script ≡ path_script job.region n path
done_script job n path r video audio d = ap (λ q. q.script) d.stands.console.at.rest ∙ (done_own job n path r video audio d).own.script_is

-- the machines are of the region of the job
pub done_region : (job : Job) (n : ℕ) (path : Path) (r : Run) (video audio : List ℕ) → IsDone job n path r video audio → r.serial.console.region ≡ job.region
done_region job n path r video audio d = sym d.stands.console.console.region ∙ (done_own job n path r video audio d).timed.region

-- a value that stands for a console state has its cartridge and script
module _ (job : Job) (n : ℕ) (p q : Path) (a b : Run) (va aa vb ab : List ℕ) (x : IsDone job n p a va aa) (y : IsDone job n q b vb ab) where
  rest_a : a.serial.console.rest ≡ x.at.console.rest
  rest_a = x.stands.console.at.rest

  rest_b : b.serial.console.rest ≡ y.at.console.rest
  rest_b = y.stands.console.at.rest

  rom_same : drop (131072 + a.serial.console.rest.board.ram) a.serial.console.rest.memory ≡ drop (131072 + a.serial.console.rest.board.ram) b.serial.console.rest.memory
  rom_same =
      let own_a = done_own job n p a va aa x in
      let own_b = done_own job n q b vb ab y in
      let board : b.serial.console.rest.board ≡ a.serial.console.rest.board = ap (λ r. r.board) rest_b ∙ own_b.own.board_is ∙ sym (ap (λ r. r.board) rest_a ∙ own_a.own.board_is) in
      ap rom_of rest_a ∙ own_a.own.rom_is ∙ sym own_b.own.rom_is ∙ sym (ap rom_of rest_b) ∙ ap (λ m. drop (131072 + m.ram) b.serial.console.rest.memory) board

  -- the sound sides' lists of resets, and room for them
  sound_resets_a : a.serial.sound.clock.resets ≡ p.resets
  sound_resets_a = ap (λ m. m.resets) x.stands.sound.clock ∙ (done_own job n p a va aa x).resets_are ∙ x.in_order

  sound_room_b : b.serial.sound.clock.room ≡ n
  sound_room_b = ap (λ m. m.room) y.stands.sound.clock ∙ (done_own job n q b vb ab y).room_is

  pub can_copy : CanCopy a b
  can_copy =
      let own_a = done_own job n p a va aa x in
      let own_b = done_own job n q b vb ab y in
      let script_a = ap (λ r. r.script) rest_a ∙ own_a.own.script_is in
      let script_b = ap (λ r. r.script) rest_b ∙ own_b.own.script_is in
      let sound_a = x.stands.sound in
      let sound_b = y.stands.sound in
      record {
        board = ap (λ r. r.board) rest_a ∙ own_a.own.board_is ∙ sym (ap (λ r. r.board) rest_b ∙ own_b.own.board_is);
        rom = rom_same;
        room = subst (λ m. length a.serial.console.rest.script.spans ≤ m) (sym (ap (λ s. s.room) script_b)) (subst (λ s. length s.spans ≤ n) (sym script_a) x.room);
        reset_room = subst (λ m. length a.serial.console.rest.script.resets ≤ m) (sym (ap (λ s. s.room) script_b)) (subst (λ s. length s.resets ≤ n) (sym script_a) x.reset_room);
        boot = ap (λ m. m.boot) sound_a.hardware ∙ own_a.boot_is ∙ sym (ap (λ m. m.boot) sound_b.hardware ∙ own_b.boot_is);
        table = ap (λ m. m.table) sound_a.hardware ∙ own_a.table_is ∙ sym (ap (λ m. m.table) sound_b.hardware ∙ own_b.table_is);
        sound_room = subst (λ m. length a.serial.sound.clock.resets ≤ m) (sym sound_room_b) (subst (λ xs. length xs ≤ n) (sym sound_resets_a) x.reset_room);
      }

  same_room : (r : BusState) → r.script ≡ path_script job.region n p → rest_with_room r n ≡ r
  same_room r is = ap (λ m. rest_with_room r m) (sym (ap (λ s. s.room) is))

  room_b : b.serial.console.rest.script.room ≡ n
  room_b = let own_b = done_own job n q b vb ab y in ap (λ r. r.script.room) rest_b ∙ ap (λ s. s.room) own_b.own.script_is

  -- the copy stands where the first run does
  copied_stands : (stepped : ℕ) → IsDone job n p (copy_of a n n stepped) va aa
  copied_stands stepped =
      let own_a = done_own job n p a va aa x in
      record {
        at = x.at;
        stands = record {
          console = record {
            at = record { processor = x.stands.console.at.processor; rest = ap (λ r. rest_with_room r n) rest_a ∙ same_room x.at.console.rest own_a.own.script_is };
            stamp = x.stands.console.stamp;
            console = x.stands.console.console;
          };
          sound = record {
            processor = x.stands.sound.processor;
            hardware = x.stands.sound.hardware;
            clock = ap (λ c. clock_with_room c n) x.stands.sound.clock ∙ ap (λ m. clock_with_room x.at.sound.clock m) (sym own_a.room_is);
          };
          to_sound = x.stands.to_sound;
          to_console = x.stands.to_console;
        };
        underway = x.underway;
        past = x.past;
        no_video = x.no_video;
        no_audio = x.no_audio;
        end_is = x.end_is;
        few = x.few;
        room = x.room;
        reset_room = x.reset_room;
        rise = x.rise;
        in_order = x.in_order;
      }

  pub copied_done : (c : Run) (stepped : ℕ) → c ≡ copy_of a b.serial.console.rest.script.room b.serial.sound.clock.room stepped → HoldsPath job n p c
  copied_done c stepped is = subst (λ r. HoldsPath job n p r) (sym (is ∙ ap (λ m. copy_of a m b.serial.sound.clock.room stepped) room_b ∙ ap (λ m. copy_of a n m stepped) sound_room_b)) (va, aa, copied_stands stepped)

-- the slots after a keep
pub slot_kept : (job : Job) (n : ℕ) (paths : Paths) (slots : List Run) (slot : ℕ) (new : Run) → slot < length slots
    → ((k : ℕ) (other : Run) → k < length slots → HoldsPath job n (paths.held k) (slice_index_or slots k other))
    → HoldsPath job n paths.path new
    → (k : ℕ) (other : Run) → k < length (slice_set slots slot new) → HoldsPath job n ((kept paths slot).held k) (slice_index_or (slice_set slots slot new) k other)
slot_kept job n paths slots slot new within held now k other lt = ⊎_elim same differ (cases_eq k slot)
  where
    same : k ≡ slot → HoldsPath job n ((kept paths slot).held k) (slice_index_or (slice_set slots slot new) k other)
    same e =
        let on : (slot == slot) ≡ true = grind (arith, nat_tests) in
        subst (λ j. HoldsPath job n ((kept paths slot).held j) (slice_index_or (slice_set slots slot new) j other)) (sym e)
        (subst (λ r. HoldsPath job n ((kept paths slot).held slot) r) (sym (get_or-set_same slots slot new other within))
        (subst (λ b. HoldsPath job n (if b then paths.path else paths.held slot) new) {x = true} (sym on) now))

    differ : (k ≡ slot → ⊥) → HoldsPath job n ((kept paths slot).held k) (slice_index_or (slice_set slots slot new) k other)
    differ ne =
        let e = length-set slots slot new in
        let off : (k == slot) ≡ false = grind (arith, nat_tests) in
        subst (λ r. HoldsPath job n ((kept paths slot).held k) r) (sym (get_or-set_other slots slot k new other ne))
        (subst (λ b. HoldsPath job n (if b then paths.path else paths.held k) (slice_index_or slots k other)) (sym off) (held k other (omega (arith, lt, e))))

pub kept_rested : (job : Job) (n : ℕ) (paths : Paths) (r after : Rewind) (slot : ℕ) (old new : Run) → slot < length r.slots.items → old ≡ slice_index_or r.slots.items slot old
    → new ≡ copy_of r.run old.serial.console.rest.script.room old.serial.sound.clock.room old.stepped → after.run ≡ r.run → after.slots.items ≡ slice_set r.slots.items slot new
    → IsRested job n paths r → IsRested job n (kept paths slot) after
kept_rested job n paths r after slot old new within is copied same set h =
    let (video, audio, done) = h.now in
    let (old_video, old_audio, old_done) = subst (HoldsPath job n (paths.held slot)) (sym is) (h.slots slot old within) in
    record {
      now = subst (HoldsPath job n paths.path) (sym same) h.now;
      slots = subst (λ v. (k : ℕ) (other : Run) → k < length v → HoldsPath job n ((kept paths slot).held k) (slice_index_or v k other)) (sym set)
          (slot_kept job n paths r.slots.items slot new within h.slots (copied_done job n paths.path (paths.held slot) r.run old video audio old_video old_audio done old_done new old.stepped copied));
    }

pub back_rested : (job : Job) (n : ℕ) (paths : Paths) (r after : Rewind) (slot : ℕ) (held new : Run) → slot < length r.slots.items → held ≡ slice_index_or r.slots.items slot held
    → new ≡ copy_of held r.run.serial.console.rest.script.room r.run.serial.sound.clock.room r.run.stepped → after.run ≡ new → after.slots.items ≡ r.slots.items
    → IsRested job n paths r → IsRested job n (back paths slot) after
back_rested job n paths r after slot held new within is copied now same h =
    let (video, audio, done) = h.now in
    let (held_video, held_audio, held_done) = subst (HoldsPath job n (paths.held slot)) (sym is) (h.slots slot held within) in
    record {
      now = subst (HoldsPath job n (paths.held slot)) (sym now) (copied_done job n (paths.held slot) paths.path held r.run held_video held_audio video audio held_done done new r.run.stepped copied);
      slots = subst (λ v. (k : ℕ) (other : Run) → k < length v → HoldsPath job n (paths.held k) (slice_index_or v k other)) (sym same) h.slots;
    }

pub keeps_can : (job : Job) (n : ℕ) (paths : Paths) (r : Rewind) (slot : ℕ) (old : Run) → slot < length r.slots.items → old ≡ slice_index_or r.slots.items slot old → IsRested job n paths r
    → CanCopy r.run old × CanCopy old r.run
keeps_can job n paths r slot old within is h =
    let (video, audio, done) = h.now in
    let (old_video, old_audio, old_done) = subst (HoldsPath job n (paths.held slot)) (sym is) (h.slots slot old within) in (
      can_copy job n paths.path (paths.held slot) r.run old video audio old_video old_audio done old_done,
      can_copy job n (paths.held slot) paths.path old r.run old_video old_audio video audio old_done done,
    )
