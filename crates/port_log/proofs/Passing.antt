-- What a call over two seats does to a pass.
use Rattle.std.proofs.Common.{◌≡◌, ℕ, List, [], Option, Some, None, Result, Ok, Err, refl, ap, sym, ◌∙◌, subst, arith, append-nil}
use Rattle.std.specs.Prelude.{unwrap_or, option_map}
use Rattle.atomic_table.specs.Seated.{TableId}
use Rattle.snes_defs.specs.declared.region.Region.{Region}
use Rattle.snes_defs.specs.declared.ports.Side.{Side}
use Rattle.snes_defs.specs.declared.ports.Side.TheVariants.{Console, Sound}
use Rattle.port_entries.specs.Entry.{Entry}
use Rattle.port_log.specs.Kept.{other_side}
use Rattle.port_wire.specs.Answers.{HearsOn}
use Rattle.port_wire.specs.declared.late.PassLate.{PassLate}
use Rattle.port_wire.specs.declared.late.PassLate.TheVariants.{Behind, Ahead, Held}
use Rattle.port_log.specs.Known.{LockKnown, Half, Book, ListKnown}
use Rattle.port_log.specs.PortsKnown.{PortsKnown}
use Rattle.port_log.specs.Sums.{count_of}
use Rattle.port_log.specs.LockRule.{part_in, holding, missed_once}
use Rattle.port_log.specs.ListRule.{list_in, clock_in, IsTrueHalf, logged, half_by, told_by, without_book}
use Rattle.port_log.specs.Seating.{no_half, half_option, half_in, MissesOnce}
use Rattle.port_log.specs.PassCalls.{IsTold, IfHeld, IfTold}
use Rattle.port_log.specs.Passes.{shown, ports_of, StandFor}
use Rattle.port_wire.specs.declared.counts.Counts.{Counts}
use Rattle.port_log.specs.declared.seats.Seats.{Seats}
use Rattle.port_log.proofs.Calling.{half-true, other-clock}

-- the half of a view that was told
mapped : (h : Half) (o : Option Half) → count_of o ≡ 1 → unwrap_or (option_map (λ _. h) o) no_half ≡ h
mapped h None e = absurd (omega arith)
mapped h (Some x) e = refl

pub told-half : (side : Side) (b : Book) (v : ListKnown) → count_of (half_option side v) ≡ 1
    → half_in side (without_book (told_by b v)) ≡ half_by side b
told-half Console b v e = mapped (half_by Console b) v.console e
told-half Sound b v e = mapped (half_by Sound b) v.sound e

count-mapped : (h : Half) (o : Option Half) → count_of (option_map (λ _. h) o) ≡ count_of o
count-mapped h None = refl
count-mapped h (Some x) = refl

pub still-half : (side : Side) (b : Book) (v : ListKnown)
    → count_of (half_option side (without_book (told_by b v))) ≡ count_of (half_option side v)
still-half Console b v = count-mapped (half_by Console b) v.console
still-half Sound b v = count-mapped (half_by Sound b) v.sound

still-none : (side : Side) (b : Book) (v : ListKnown) → half_option side v ≡ None
    → half_option side (without_book (told_by b v)) ≡ None
still-none Console b v e = ap (λ (o : Option Half). option_map (λ _. half_by Console b) o) e
still-none Sound b v e = ap (λ (o : Option Half). option_map (λ _. half_by Sound b) o) e

-- a side that logs publishes its clock, and leaves the other side's list
clock-logged : (side : Side) (es : List Entry) (clock : ℕ) (b : Book) → clock_in side (logged side es clock b) ≡ clock
clock-logged Console es clock b = refl
clock-logged Sound es clock b = refl

other-list : (side : Side) (es : List Entry) (clock : ℕ) (b : Book)
    → list_in (other_side side) (logged side es clock b) ≡ list_in (other_side side) b
other-list Console es clock b = refl
other-list Sound es clock b = refl

-- seats of the same tables and region
pub same-ports : (before after : Seats) → after.lock.table_id ≡ before.lock.table_id
    → after.list.table_id ≡ before.list.table_id → after.lock.me.0.region ≡ before.lock.me.0.region
    → ports_of after ≡ ports_of before
same-ports before after lock list region =
    ap (λ (i : TableId). let p : PortsKnown = record { lock = i; list = after.list.table_id; region = after.lock.me.0.region } in p) lock
    ∙ ap (λ (i : TableId). let p : PortsKnown = record { lock = before.lock.table_id; list = i; region = after.lock.me.0.region } in p) list
    ∙ ap (λ (r : Region). let p : PortsKnown = record { lock = before.lock.table_id; list = before.list.table_id; region = r } in p) region

-- a call that had the log
module _ {side : Side} {before after : Seats} {es : List Entry} {clock : ℕ} {Answers : Book → Type 0} (s : StandFor side before) (t : IsTold side before after es clock Answers) where
  half-now : half_in side after.list.me.0 ≡ half_by side (logged side es clock t.found)
  half-now =
      ap (λ m. half_in side m.0) t.list
      ∙ told-half side (logged side es clock t.found) before.list.me.0 s.idle.has_half

  was : IsTrueHalf side t.found (half_in side before.list.me.0)
  was = half-true side t.found before.list.me.0 t.known s.idle.has_half

  upto-now : (half_in side after.list.me.0).upto ≡ clock_in (other_side side) t.found
  upto-now = ap (λ h. h.upto) half-now ∙ other-clock side es clock t.found

  at-now : (half_in side after.list.me.0).at ≡ clock
  at-now = ap (λ h. h.at) half-now ∙ clock-logged side es clock t.found

  heard-now : (half_in side after.list.me.0).heard ≡ list_in (other_side side) t.found
  heard-now = ap (λ h. h.heard) half-now ∙ other-list side es clock t.found

  stand-told : StandFor side after
  stand-told = record {
    idle = record {
      here = ap (λ m. part_in side m.0) t.lock ∙ s.idle.here;
      other = ap (λ m. holding (part_in (other_side side) m.0)) t.lock ∙ s.idle.other;
      no_slot = ap (λ m. m.1) t.lock;
      no_list_slot = ap (λ m. m.1) t.list;
      has_half =
          ap (λ m. count_of (half_option side m.0)) t.list
          ∙ still-half side (logged side es clock t.found) before.list.me.0 ∙ s.idle.has_half;
      no_book = ap (λ m. m.0.book) t.list;
    };
    away = ap (λ m. part_in (other_side side) m.0) t.lock ∙ s.away;
    no_other =
        ap (λ m. half_option (other_side side) m.0) t.list
        ∙ still-none (other_side side) (logged side es clock t.found) before.list.me.0 s.no_other;
    names_list = ap (λ m. m.0.list) t.lock ∙ s.names_list ∙ sym t.list_table;
    own = t.own ∙ sym at-now;
    known = t.told ∙ sym upto-now;
  }

  hears-told : (c d : Counts) → HearsOn (shown (half_in side before.list.me.0) c) (shown (half_in side after.list.me.0) d)
  hears-told c d = record {
    more = was.heard.rest;
    heard = was.heard.whole_is ∙ sym heard-now;
    later = was.heard.later;
    upto = omega (arith, was.upto, upto-now);
    known = omega (arith, was.upto, upto-now);
  }

-- a seat that counts a miss has the parts that it had
same-part : (side : Side) (v : LockKnown) → part_in side (missed_once v) ≡ part_in side v
same-part Console v = refl
same-part Sound v = refl

-- a call that missed the log
module _ {side : Side} {before after : Seats} (s : StandFor side before) (m : MissesOnce side before after) where
  known-still : half_in side after.list.me.0 ≡ half_in side before.list.me.0
  known-still = ap (λ x. half_in side x.0) m.list

  stand-missed : StandFor side after
  stand-missed = record {
    idle = record {
      here = ap (λ x. part_in side x.0) m.lock ∙ same-part side before.lock.me.0 ∙ s.idle.here;
      other =
          ap (λ x. holding (part_in (other_side side) x.0)) m.lock
          ∙ ap holding (same-part (other_side side) before.lock.me.0) ∙ s.idle.other;
      no_slot = ap (λ x. x.1) m.lock;
      no_list_slot = ap (λ x. x.1) m.list ∙ s.idle.no_list_slot;
      has_half = ap (λ x. count_of (half_option side x.0)) m.list ∙ s.idle.has_half;
      no_book = ap (λ x. x.0.book) m.list ∙ s.idle.no_book;
    };
    away = ap (λ x. part_in (other_side side) x.0) m.lock ∙ same-part (other_side side) before.lock.me.0 ∙ s.away;
    no_other = ap (λ x. half_option (other_side side) x.0) m.list ∙ s.no_other;
    names_list = ap (λ x. x.0.list) m.lock ∙ s.names_list ∙ sym m.list_table;
    own = ap (λ k. k.own) m.clocks ∙ s.own ∙ sym (ap (λ h. h.at) known-still);
    known = ap (λ k. k.known) m.clocks ∙ s.known ∙ sym (ap (λ h. h.upto) known-still);
  }

  hears-missed : (c d : Counts) → HearsOn (shown (half_in side before.list.me.0) c) (shown (half_in side after.list.me.0) d)
  hears-missed c d =
      let H : Half → Type 0 = λ h. HearsOn (shown (half_in side before.list.me.0) c) (shown h d) in
      subst H (sym known-still)
      (record {
        more = [];
        heard = append-nil _;
        later = tt;
        upto = omega arith;
        known = omega arith;
      })

-- any call over a pass, by its answer
module _ {A : Type 0} {side : Side} {before : Seats} (after : Seats) (es : List Entry) (clock : ℕ) (Answers : Book → Type 0) (s : StandFor side before) where
  pub stands : (r : Result A PassLate) → IfHeld r (λ by. (by ≡ other_side side) × MissesOnce side before after)
      → IfTold r (IsTold side before after es clock Answers) → StandFor side after
  stands (Ok x) h t = stand-told s t
  stands (Err (Behind need other)) h t = stand-told s t
  stands (Err (Ahead at other)) h t = stand-told s t
  stands (Err (Held by)) h t = stand-missed s h.1

  pub hears : (r : Result A PassLate) (c d : Counts)
      → IfHeld r (λ by. (by ≡ other_side side) × MissesOnce side before after)
      → IfTold r (IsTold side before after es clock Answers)
      → HearsOn (shown (half_in side before.list.me.0) c) (shown (half_in side after.list.me.0) d)
  hears (Ok x) c d h t = hears-told s t c d
  hears (Err (Behind need other)) c d h t = hears-told s t c d
  hears (Err (Ahead at other)) c d h t = hears-told s t c d
  hears (Err (Held by)) c d h t = hears-missed s h.1 c d
