-- What a desk stands for as its side takes more of the other's writes.
use Rattle.std.proofs.Common.{◌≡◌, ℕ, ◌+◌, ◌<◌, ◌≤◌, Bool, true, false, List, [], ◌∷◌, ◌++◌, Option, Some, None, if◌then◌else◌, length, max, sym, refl, ap, ◌∙◌, subst, arith, append-nil, append_assoc, length-append}
use Rattle.std.specs.Prelude.{nat_le, unwrap_or}
use Rattle.std.proofs.lemmas.Bool.{le-leb, lt-leb}
use Rattle.snes_defs.specs.declared.region.Region.{Region}
use Rattle.snes_defs.specs.declared.ports.Side.{Side}
use Rattle.snes_defs.specs.declared.ports.Side.TheVariants.{Console, Sound}
use Rattle.clock_ratio.specs.Stamp.{least_of}
use Rattle.port_entries.specs.Entry.{Entry, entry_stamp}
use Rattle.port_log.specs.Kept.{LogValue, clock_of, other_clock, other_side}
use Rattle.port_log.specs.Entries.{with_entry}
use Rattle.port_wire.specs.Seen.{writes_of}
use Rattle.word_log.specs.Sums.{count_of}
use Rattle.word_log.specs.Layout.{entry_in}
use Rattle.word_log.specs.Known.{Half, Known, no_half, half_option, half_in, has, changed, told_once}
use Rattle.word_log.specs.Rule.{AreFrom, end_of}
use Rattle.word_log.specs.Steps.{after_clock, after_length, after_entry, TellsClock, TellsLength, TellsEntry}
use Rattle.word_log.specs.Desks.{heard_entries, IsDesk, Takes, Listens}
use Rattle.word_log.specs.declared.desk.Desk.{Desk}
use Rattle.word_log.proofs.Entries.{all-append, end-append, from-later}

-- the half of a view that has it
pub is-some : (side : Side) (v : Known) → has side v ≡ 1 → half_option side v ≡ Some (half_in side v)
is-some Console v e = some-is v.console e
  where
    some-is : (o : Option Half) → count_of o ≡ 1 → o ≡ Some (unwrap_or o no_half)
    some-is None e = absurd (omega arith)
    some-is (Some h) e = refl
is-some Sound v e = some-is v.sound e
  where
    some-is : (o : Option Half) → count_of o ≡ 1 → o ≡ Some (unwrap_or o no_half)
    some-is None e = absurd (omega arith)
    some-is (Some h) e = refl

pub has-some : (side : Side) (v : Known) (h : Half) → half_option side v ≡ Some h → has side v ≡ 1
has-some side v h e = ap count_of e

pub half-changed : (side : Side) (h : Half) (v : Known) → half_in side (changed side h v) ≡ h
half-changed Console h v = refl
half-changed Sound h v = refl

pub option-changed : (side : Side) (h : Half) (v : Known) → half_option side (changed side h v) ≡ Some (half_in side (changed side h v))
option-changed Console h v = refl
option-changed Sound h v = refl

pub others-changed : (side : Side) (h : Half) (v : Known) → half_option (other_side side) (changed side h v) ≡ half_option (other_side side) v
others-changed Console h v = refl
others-changed Sound h v = refl

pub place-changed : (side : Side) (h : Half) (v : Known) → (changed side h v).region ≡ v.region
place-changed Console h v = refl
place-changed Sound h v = refl

pub told-changed : (side : Side) (h : Half) (v : Known) → (changed side h v).told ≡ v.told
told-changed Console h v = refl
told-changed Sound h v = refl

pub others-told : (side : Side) (h : Half) (v : Known) → half_option (other_side side) (changed side h (told_once v)) ≡ half_option (other_side side) v
others-told Console h v = refl
others-told Sound h v = refl

pub place-told : (side : Side) (h : Half) (v : Known) → (changed side h (told_once v)).region ≡ v.region
place-told Console h v = refl
place-told Sound h v = refl

pub told-told : (side : Side) (h : Half) (v : Known) → (changed side h (told_once v)).told ≡ v.told + 1
told-told Console h v = refl
told-told Sound h v = refl

-- one more write was taken
raised-by : (h : Half) (b : Bool) → nat_le h.may (length h.heard + 1) ≡ b → h.may ≤ length h.heard + 1
    → (if b then h.other else h.upto) ≡ h.other
raised-by h true e le = refl
raised-by h false e le = let t = le-leb h.may (length h.heard + 1) le in cc

low-by : (h : Half) (b : Bool) → nat_le h.may (length h.heard + 1) ≡ b → length h.heard + 1 < h.may
    → (if b then h.other else h.upto) ≡ h.upto
low-by h true e lt = let t = lt-leb h.may (length h.heard + 1) lt in cc
low-by h false e lt = refl

pub takes-one : (side : Side) (v w : Known) (n : ℕ) → TellsEntry side v n w → Takes side v w
takes-one side v w n t =
    let h = half_in side v in
    let g = after_entry (entry_in n) h in
    let is = half-changed side g v in
    let may = ap (λ (k : Half). k.may) is in
    let long = ap (λ (k : Half). length k.heard) is ∙ length-append h.heard (entry_in n ∷ []) in
    let now : Takes side v (changed side g v) = record {
      more = entry_in n ∷ [];
      own = option-changed side g v;
      others = others-changed side g v;
      place = place-changed side g v;
      told = told-changed side g v;
      mine = ap (λ (k : Half). k.mine) is;
      at = ap (λ (k : Half). k.at) is;
      other = ap (λ (k : Half). k.other) is;
      may = may;
      heard = sym (ap (λ (k : Half). k.heard) is);
      later = (t.from_upto, tt);
      raised = λ le.
          ap (λ (k : Half). k.upto) is
          ∙ raised-by h (nat_le h.may (length h.heard + 1)) refl (omega (arith, le, may, long))
          ∙ sym (ap (λ (k : Half). k.other) is);
      low = λ lt.
          ap (λ (k : Half). k.upto) is
          ∙ low-by h (nat_le h.may (length h.heard + 1)) refl (omega (arith, lt, may, long));
    } in
    subst (λ (k : Known). Takes side v k) (sym t.after) now

-- nothing was taken yet
pub takes-none : (side : Side) (v : Known) → has side v ≡ 1
    → ((half_in side v).may ≤ length (half_in side v).heard → (half_in side v).upto ≡ (half_in side v).other)
    → Takes side v v
takes-none side v e raised = record {
  more = [];
  own = is-some side v e;
  others = refl;
  place = refl;
  told = refl;
  mine = refl;
  at = refl;
  other = refl;
  may = refl;
  heard = append-nil (half_in side v).heard;
  later = tt;
  raised = raised;
  low = λ lt. refl;
}

-- and then some more
pub takes-on : (side : Side) (v w u : Known) → Takes side v w → Takes side w u
    → length (half_in side w).heard + 1 ≤ (half_in side w).may → Takes side v u
takes-on side v w u s t lt =
    let still : (half_in side w).upto ≡ (half_in side v).upto = s.low lt in
    record {
      more = s.more ++ t.more;
      own = t.own;
      others = t.others ∙ s.others;
      place = t.place ∙ s.place;
      told = t.told ∙ s.told;
      mine = t.mine ∙ s.mine;
      at = t.at ∙ s.at;
      other = t.other ∙ s.other;
      may = t.may ∙ s.may;
      heard = sym (append_assoc (half_in side v).heard s.more t.more) ∙ ap (λ l. l ++ t.more) s.heard ∙ t.heard;
      later = all-append (λ x. (half_in side v).upto ≤ entry_stamp x) s.more t.more s.later
          (subst (λ (a : ℕ). AreFrom a t.more) still t.later);
      raised = t.raised;
      low = λ le. t.low le ∙ still;
    }

-- the desk has received what was taken
pub desk-took : (side : Side) (region : Region) (h : Half) (d : Desk) (log : LogValue) (n : ℕ) → IsDesk side region h d
    → log.region ≡ d.log.region → clock_of (other_side side) log ≡ entry_stamp (entry_in n) + least_of region
    → other_clock (other_side side) log ≡ other_clock (other_side side) d.log
    → IsDesk side region (after_entry (entry_in n) h) (record d { log = log; heard = d.heard + 1 })
desk-took Console region h d log n k place clock other = record {
  of_region = place ∙ k.of_region;
  clock = other ∙ k.clock;
  front = omega (arith, clock, end-append (least_of region) h.heard (entry_in n));
  heard = omega (arith, k.heard, length-append h.heard (entry_in n ∷ []));
  written = k.written;
}
desk-took Sound region h d log n k place clock other = record {
  of_region = place ∙ k.of_region;
  clock = other ∙ k.clock;
  front = omega (arith, clock, end-append (least_of region) h.heard (entry_in n));
  heard = omega (arith, k.heard, length-append h.heard (entry_in n ∷ []));
  written = k.written;
}

-- the entries that it reads by
pub heard-more : (side : Side) (clears heard : List Entry) (e : Entry)
    → with_entry (other_side side) e (heard_entries side clears heard) ≡ heard_entries side clears (heard ++ e ∷ [])
heard-more Console clears heard e = refl
heard-more Sound clears heard e = refl

pub cleared-more : (side : Side) (clears heard : List Entry) (e : Entry)
    → with_entry side e (heard_entries side clears heard) ≡ heard_entries side (clears ++ e ∷ []) heard
cleared-more Console clears heard e = refl
cleared-more Sound clears heard e = refl

-- a clock and a count were told
upto-rises : (h : Half) (b : Bool) → h.upto ≤ h.other → h.upto ≤ (if b then h.other else h.upto)
upto-rises h true le = le
upto-rises h false le = omega arith

raised-length : (h : Half) (many : ℕ) (b : Bool) → nat_le many (length h.heard) ≡ b → many ≤ length h.heard
    → (if b then h.other else h.upto) ≡ h.other
raised-length h many true e le = refl
raised-length h many false e le = let t = le-leb many (length h.heard) le in cc

module _ (side : Side) (v w u : Known) (logs : ℕ → List Entry) (clock many : ℕ) (s : TellsClock side v logs clock w) (t : TellsLength side w many u) where
  -- the half after the two loads
  abbrev told-half : Half
  told-half = after_clock clock s.many (logs clock) (half_in side v)

  pub is-told : half_in side w ≡ told-half
  is-told = ap (half_in side) s.after ∙ half-changed side told-half (told_once v)

  pub is-long : half_in side u ≡ after_length many told-half
  is-long =
      ap (half_in side) t.after ∙ half-changed side (after_length many (half_in side w)) w
      ∙ ap (after_length many) is-told

  low : (half_in side v).upto ≤ clock
  low = omega (arith, t.upto, ap (λ (k : Half). k.upto) is-told, ap (λ (k : Half). k.other) is-told)

  pub upto-told : (half_in side v).upto ≤ (half_in side u).upto
  upto-told =
      subst (λ (k : Half). (half_in side v).upto ≤ k.upto) (sym is-long)
      (upto-rises told-half (nat_le many (length told-half.heard)) low)

  pub has-told : has side u ≡ 1
  has-told = ap (has side) t.after ∙ has-some side (changed side (after_length many (half_in side w)) w) _ (option-changed side (after_length many (half_in side w)) w)

  pub place-two : u.region ≡ v.region
  place-two = ap (λ (k : Known). k.region) t.after ∙ place-changed side (after_length many (half_in side w)) w ∙ ap (λ (k : Known). k.region) s.after ∙ place-told side told-half v

  pub others-two : half_option (other_side side) u ≡ half_option (other_side side) v
  others-two =
      ap (half_option (other_side side)) t.after ∙ others-changed side (after_length many (half_in side w)) w
      ∙ ap (half_option (other_side side)) s.after ∙ others-told side told-half v

  told-two : u.told ≡ v.told + 1
  told-two = ap (λ (k : Known). k.told) t.after ∙ told-changed side (after_length many (half_in side w)) w ∙ ap (λ (k : Known). k.told) s.after ∙ told-told side told-half v

  pub raised-two : many ≤ length (half_in side u).heard → (half_in side u).upto ≡ (half_in side u).other
  raised-two le =
      ap (λ (k : Half). k.upto) is-long
      ∙ raised-length told-half many (nat_le many (length told-half.heard)) refl (omega (arith, le, ap (λ (k : Half). length k.heard) is-long))
      ∙ sym (ap (λ (k : Half). k.other) is-long)

  pub may-two : (half_in side u).may ≡ many
  may-two = ap (λ (k : Half). k.may) is-long

  -- and then all was taken
  module _ (x : Known) (r : Takes side u x) (all : many ≤ length (half_in side x).heard) where
    pub other-now : (half_in side x).other ≡ clock
    other-now = r.other ∙ ap (λ (k : Half). k.other) is-long

    pub listens-by : Listens side v x (logs (half_in side x).other) (half_in side v).at
    listens-by = record {
      more = r.more;
      own = r.own;
      others = r.others ∙ others-two;
      place = r.place ∙ place-two;
      told = r.told ∙ told-two;
      mine = r.mine ∙ ap (λ (k : Half). k.mine) is-long ∙ ap (λ (k : ℕ). (half_in side v).mine ++ logs k) (sym other-now);
      at = r.at ∙ ap (λ (k : Half). k.at) is-long;
      heard = ap (λ (k : Half). k.heard ++ r.more) (sym is-long) ∙ r.heard;
      later = from-later (half_in side v).upto (half_in side u).upto r.more upto-told r.later;
      upto = r.raised (omega (arith, all, r.may, may-two));
      other = omega (arith, other-now, s.rises);
      whole = λ o e. (
        other-now ∙ s.whole o e,
        omega (arith, all, t.whole o (ap (half_option (other_side side)) s.after ∙ others-told side told-half v ∙ e)),
      );
    }

-- the desk of a half with the same clock, writes and heard
pub desk-same : (side : Side) (region : Region) (h g : Half) (d : Desk) → IsDesk side region h d → g.at ≡ h.at
    → g.heard ≡ h.heard → writes_of g.mine ≡ writes_of h.mine → h.upto ≤ g.upto → IsDesk side region g d
desk-same side region h g d k at heard writes upto = record {
  of_region = k.of_region;
  clock = k.clock ∙ sym at;
  front = omega (arith, k.front, upto, ap (end_of (least_of region)) heard);
  heard = k.heard ∙ sym (ap length heard);
  written = k.written ∙ sym (ap length writes);
}

-- the other side's clock was published in the log
pub desk-told : (side : Side) (region : Region) (h : Half) (d : Desk) (log : LogValue) (known latest : ℕ) → IsDesk side region h d
    → log.region ≡ d.log.region → clock_of (other_side side) log ≡ latest → latest ≤ max h.upto (other_clock side d.log)
    → other_clock (other_side side) log ≡ other_clock (other_side side) d.log
    → IsDesk side region h (record d { log = log; known = known })
desk-told Console region h d log known latest k place clock late other = record {
  of_region = place ∙ k.of_region;
  clock = other ∙ k.clock;
  front = omega (arith, clock, late, k.front);
  heard = k.heard;
  written = k.written;
}
desk-told Sound region h d log known latest k place clock late other = record {
  of_region = place ∙ k.of_region;
  clock = other ∙ k.clock;
  front = omega (arith, clock, late, k.front);
  heard = k.heard;
  written = k.written;
}
