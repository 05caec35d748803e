-- What a call of a side leaves and answers.
use Rattle.std.proofs.Common.{◌≡◌, ℕ, ◌+◌, ◌*◌, ◌^◌, ◌<◌, ◌≤◌, Bool, true, false, ◌&&◌, List, [], ◌∷◌, ◌++◌, if◌then◌else◌, length, sym, refl, ap, ◌∙◌, subst, arith, append-nil, append_assoc, length-append}
use Rattle.std.specs.Prelude.{nat_le, nat_lt}
use Rattle.std.specs.List.{AllByRecursion, list_all}
use Rattle.std.proofs.lemmas.Bool.{le-leb, lt-leb, lt-ltb, le-ltb}
use Rattle.snes_defs.specs.declared.region.Region.{Region}
use Rattle.snes_defs.specs.declared.region.Region.TheVariants.{Ntsc, Pal}
use Rattle.snes_defs.specs.declared.ports.Side.{Side}
use Rattle.snes_defs.specs.declared.ports.Side.TheVariants.{Console, Sound}
use Rattle.clock_ratio.specs.Stamp.{least_of}
use Rattle.port_entries.specs.Entry.{Entry, WriteAt, ClearAt}
use Rattle.port_entries.specs.LastValue.{leaves, last_value}
use Rattle.port_entries.specs.Window.{IsSettled}
use Rattle.port_log.specs.Kept.{LogValue, clock_of, other_clock}
use Rattle.port_log.specs.Entries.{Entries, with_entry, value_by, StandsFor}
use Rattle.port_log.specs.Refused.{IsBehind}
use Rattle.port_log.proofs.Reading.{value-same}
use Rattle.port_wire.specs.Seen.{writes_of}
use Rattle.word_log.specs.Known.{Half, Known, half_in, has, changed}
use Rattle.word_log.specs.Rule.{end_of}
use Rattle.word_log.specs.Steps.{IsClearFrom, after_put, after_count, after_publish}
use Rattle.word_log.specs.Desks.{clears_of, heard_entries, ReadsBy, IsDesk, IsReady, Listens, clear_at}
use Rattle.word_log.specs.declared.desk.Desk.{Desk}
use Rattle.word_log.proofs.Entries.{end-append, writes-append}
use Rattle.word_log.proofs.Desks.{half-changed, option-changed, others-changed, place-changed, told-changed, cleared-more}

-- the clears of a list that grows
pub clears-append : (xs ys : List Entry) → clears_of (xs ++ ys) ≡ clears_of xs ++ clears_of ys
clears-append [] ys = refl
clears-append (WriteAt at port byte ∷ xs) ys = clears-append xs ys
clears-append (ClearAt at mask ∷ xs) ys = ap (λ l. ClearAt at mask ∷ l) (clears-append xs ys)

-- writes of the side's own leave what it reads
leaves-clears : (side : Side) (port w : ℕ) (mine : List Entry)
    → list_all (leaves side port w) (clears_of mine) ≡ list_all (leaves side port w) mine
leaves-clears side port w [] = refl
leaves-clears side port w (WriteAt at p byte ∷ es) = leaves-clears side port w es
leaves-clears side port w (ClearAt at mask ∷ es) =
    ap (λ b. leaves side port w (ClearAt at mask) && b) (leaves-clears side port w es)

pub read-value : (side : Side) (mine heard : List Entry) (port at byte : ℕ)
    → byte ≡ value_by (heard_entries side (clears_of mine) heard) side port at
    → byte ≡ last_value side mine port at heard
read-value Console mine heard port at byte e =
    e ∙ value-same Console (clears_of mine) mine port at (λ w. leaves-clears Console port w mine) heard 0
read-value Sound mine heard port at byte e =
    e ∙ value-same Sound (clears_of mine) mine port at (λ w. leaves-clears Sound port w mine) heard 0

-- a look that is settled is not behind
pub not-behind : (side : Side) (at told other : ℕ) → IsSettled side at told → told ≤ other → IsBehind side at other → ⊥
not-behind Console at told other s le b = absurd (omega arith)
not-behind Sound at told other s le b = absurd (omega arith)

-- what a clear logs at the load of the other side's clock
all-by : (clock at mask : ℕ) (b : Bool) → clock ≤ at
    → AllByRecursion (IsClearFrom clock) (if b then ClearAt at mask ∷ [] else [])
all-by clock at mask true h = (h, tt)
all-by clock at mask false h = tt

pub clear-logs : (side : Side) (clock at mask found : ℕ) → clock ≤ at
    → AllByRecursion (IsClearFrom clock) (clear_at side at mask found)
clear-logs Console clock at mask found h = all-by clock at mask (nat_le at found) h
clear-logs Sound clock at mask found h = all-by clock at mask (nat_lt at found) h

pub clear-settled : (side : Side) (at mask other : ℕ) → IsSettled side at other
    → clear_at side at mask other ≡ ClearAt at mask ∷ []
clear-settled Console at mask other h = ap (λ (b : Bool). if b then ClearAt at mask ∷ [] else []) (le-leb at other h)
clear-settled Sound at mask other h = ap (λ (b : Bool). if b then ClearAt at mask ∷ [] else []) (lt-ltb at other h)

pub clear-behind : (side : Side) (at mask other : ℕ) → IsBehind side at other → clear_at side at mask other ≡ []
clear-behind Console at mask other h = ap (λ (b : Bool). if b then ClearAt at mask ∷ [] else []) (lt-leb at other h)
clear-behind Sound at mask other h = ap (λ (b : Bool). if b then ClearAt at mask ∷ [] else []) (le-ltb at other h)

-- a desk that has listened and logged nothing
pub heard-ready : (side : Side) (region : Region) (h g : Half) (d e : Desk) → IsReady side region h d
    → IsDesk side region g e → ReadsBy side (clears_of h.mine) g e → g.mine ≡ h.mine ++ [] → g.at ≡ h.at
    → e.known ≡ g.other → g.upto ≡ g.other → g.other ≤ other_clock side e.log → e.written ≡ d.written
    → IsReady side region g e
heard-ready side region h g d e r desk reads mine at known upto soon same =
    let is : g.mine ≡ h.mine = mine ∙ append-nil h.mine in
    record {
      desk = desk;
      reads = subst (λ (l : List Entry). ReadsBy side (clears_of l) g e) (sym is) reads;
      known = known;
      upto = upto;
      soon = soon;
      done = omega (arith, r.done, at, ap (λ l. end_of (least_of region) (writes_of l)) is);
      many = omega (arith, ap (λ n. least_of region * n) same, r.many, at);
    }

-- and one that has logged a clear
pub cleared-ready : (side : Side) (region : Region) (h g : Half) (d e : Desk) (log : LogValue) (at mask : ℕ) → IsReady side region h d
    → IsDesk side region g e → ReadsBy side (clears_of h.mine) g e → g.mine ≡ h.mine ++ ClearAt at mask ∷ [] → g.at ≡ h.at
    → e.known ≡ g.other → g.upto ≡ g.other → g.other ≤ other_clock side e.log → e.written ≡ d.written
    → log.region ≡ e.log.region → clock_of side log ≡ clock_of side e.log → other_clock side log ≡ other_clock side e.log
    → ((entries : Entries) → StandsFor e.log entries → StandsFor log (with_entry side (ClearAt at mask) entries))
    → IsReady side region g (record e { log = log })
cleared-ready side region h g d e log at mask r desk reads mine own known upto soon same place clock other stands =
    let clears : clears_of h.mine ++ ClearAt at mask ∷ [] ≡ clears_of g.mine =
    sym (ap clears_of mine ∙ clears-append h.mine (ClearAt at mask ∷ [])) in
    let writes : writes_of g.mine ≡ writes_of h.mine =
    ap writes_of mine ∙ writes-append h.mine (ClearAt at mask ∷ []) ∙ append-nil (writes_of h.mine) in
    record {
      desk = record {
        of_region = place ∙ desk.of_region;
        clock = clock ∙ desk.clock;
        front = omega (arith, other, desk.front);
        heard = desk.heard;
        written = desk.written;
      };
      reads = subst (λ (l : List Entry). StandsFor log (heard_entries side l g.heard)) clears
          (subst (StandsFor log) (cleared-more side (clears_of h.mine) g.heard (ClearAt at mask))
          (stands (heard_entries side (clears_of h.mine) g.heard) reads));
      known = known;
      upto = upto;
      soon = omega (arith, soon, other);
      done = omega (arith, r.done, own, ap (end_of (least_of region)) writes);
      many = omega (arith, ap (λ n. least_of region * n) same, r.many, own);
    }

-- so many writes have no more than so many rises
pub few-written : (region : Region) (n at : ℕ) → least_of region * n ≤ at → at < 2 ^ 64 → n < 2 ^ 63
few-written Ntsc n at h k = omega arith
few-written Pal n at h k = omega arith

least-some : (region : Region) → 0 < least_of region
least-some Ntsc = omega arith
least-some Pal = omega arith

pub wrote-mine : (e : Entry) (next : ℕ) (h : Half) → (after_publish next (after_count (after_put e h))).mine ≡ h.mine ++ e ∷ []
wrote-mine e next h = refl

-- a desk that has logged a write, and published a clock
pub wrote-ready : (side : Side) (region : Region) (h : Half) (d : Desk) (log : LogValue) (at port v next : ℕ) → IsReady side region h d
    → h.at ≤ at → at + least_of region ≤ next
    → log.region ≡ d.log.region → clock_of side log ≡ next → other_clock side log ≡ other_clock side d.log
    → ((entries : Entries) → StandsFor d.log entries → StandsFor log entries)
    → IsReady side region (after_publish next (after_count (after_put (WriteAt at port v) h))) (record d { log = log; written = d.written + 1 })
wrote-ready side region h d log at port v next r own rises place clock other stands =
    let e = WriteAt at port v in
    let writes = writes-append h.mine (e ∷ []) in
    let clears : clears_of (h.mine ++ e ∷ []) ≡ clears_of h.mine = clears-append h.mine (e ∷ []) ∙ append-nil (clears_of h.mine) in
    record {
      desk = record {
        of_region = place ∙ r.desk.of_region;
        clock = clock;
        front = omega (arith, other, r.desk.front);
        heard = r.desk.heard;
        written = omega (arith, r.desk.written, ap length writes, length-append (writes_of h.mine) (e ∷ []));
      };
      reads = subst (λ (l : List Entry). StandsFor log (heard_entries side l h.heard)) (sym clears)
          (stands (heard_entries side (clears_of h.mine) h.heard) r.reads);
      known = r.known;
      upto = r.upto;
      soon = omega (arith, r.soon, other);
      done = omega (arith, ap (end_of (least_of region)) writes, end-append (least_of region) (writes_of h.mine) e, r.done);
      many = grind (arith, r.many);
    }

-- and one that has published a clock alone
pub advanced-ready : (side : Side) (region : Region) (h : Half) (d : Desk) (log : LogValue) (at : ℕ) → IsReady side region h d
    → h.at ≤ at → log.region ≡ d.log.region → clock_of side log ≡ at → other_clock side log ≡ other_clock side d.log
    → ((entries : Entries) → StandsFor d.log entries → StandsFor log entries)
    → IsReady side region (after_publish at h) (record d { log = log })
advanced-ready side region h d log at r own place clock other stands = record {
  desk = record {
    of_region = place ∙ r.desk.of_region;
    clock = clock;
    front = omega (arith, other, r.desk.front);
    heard = r.desk.heard;
    written = r.desk.written;
  };
  reads = stands (heard_entries side (clears_of h.mine) h.heard) r.reads;
  known = r.known;
  upto = r.upto;
  soon = omega (arith, r.soon, other);
  done = omega (arith, r.done);
  many = omega (arith, r.many);
}

-- a side that has listened has then written, or published a clock
pub listens-on : (side : Side) (v w u : Known) (es fs : List Entry) (clock next : ℕ) (g : Half) → Listens side v w es clock
    → u ≡ changed side g w → g.mine ≡ (half_in side w).mine ++ fs → g.at ≡ next → g.heard ≡ (half_in side w).heard
    → g.upto ≡ (half_in side w).upto → g.other ≡ (half_in side w).other → Listens side v u (es ++ fs) next
listens-on side v w u es fs clock next g l is mine at heard upto other =
    let now = half-changed side g w in
    let r : Listens side v (changed side g w) (es ++ fs) next = record {
      more = l.more;
      own = option-changed side g w;
      others = others-changed side g w ∙ l.others;
      place = place-changed side g w ∙ l.place;
      told = told-changed side g w ∙ l.told;
      mine =
          ap (λ (k : Half). k.mine) now ∙ mine ∙ ap (λ m. m ++ fs) l.mine
          ∙ append_assoc (half_in side v).mine es fs;
      at = ap (λ (k : Half). k.at) now ∙ at;
      heard = l.heard ∙ sym (ap (λ (k : Half). k.heard) now ∙ heard);
      later = l.later;
      upto = ap (λ (k : Half). k.upto) now ∙ upto ∙ l.upto ∙ sym (ap (λ (k : Half). k.other) now ∙ other);
      other = omega (arith, l.other, ap (λ (k : Half). k.other) now, other);
      whole = λ o e. (
        ap (λ (k : Half). k.other) now ∙ other ∙ (l.whole o e).0,
        omega (arith, (l.whole o e).1, ap (λ (k : Half). length k.heard) now, ap length heard),
      );
    } in
    subst (λ (k : Known). Listens side v k (es ++ fs) next) (sym is) r

-- a view changed twice
pub changed-twice : (side : Side) (f g : Half) (v : Known) → changed side g (changed side f v) ≡ changed side g v
changed-twice Console f g v = refl
changed-twice Sound f g v = refl

pub region-changed : (side : Side) (f : Half) (v : Known) → (changed side f v).region ≡ v.region
region-changed Console f v = refl
region-changed Sound f v = refl

pub has-changed : (side : Side) (f : Half) (v : Known) → has side (changed side f v) ≡ 1
has-changed Console f v = refl
has-changed Sound f v = refl
