-- What a side knows of the other one, after each step of either.
use Rattle.std.proofs.Common.{◌≡◌, ℕ, ◌+◌, ◌*◌, ◌≤◌, Bool, true, false, List, [], ◌∷◌, ◌++◌, None, if◌then◌else◌, length, drop, sym, refl, ap, ◌∙◌, subst, arith, append_assoc, length-append}
use Rattle.std.specs.Prelude.{nat_le}
use Rattle.std.specs.List.{AllByRecursion}
use Rattle.std.proofs.lemmas.List.{drop_all}
use Rattle.std.proofs.lemmas.Bool.{leb-true}
use Rattle.snes_defs.specs.declared.region.Region.{Region}
use Rattle.snes_defs.specs.declared.region.Region.TheVariants.{Ntsc, Pal}
use Rattle.clock_ratio.specs.Stamp.{least_of, most_of, window_of}
use Rattle.port_entries.specs.Entry.{Entry, WriteAt, ClearAt, entry_stamp}
use Rattle.port_wire.specs.Seen.{writes_of}
use Rattle.word_log.specs.Layout.{FitsWord}
use Rattle.word_log.specs.Known.{Half, no_half}
use Rattle.word_log.specs.Rule.{AreRising, AreFrom, AreUpTo, written, Follows, end_of}
use Rattle.word_log.specs.Steps.{IsClearFrom, after_clock, after_length, after_entry, after_put, after_publish}
use Rattle.word_log.proofs.Entries.{all-append, all-right, all-after, all-drop-append, from-later, up-to-later, writes-append, writes-after-clears, clears-rise, clears-fit, clears-from, rising-append, writes-rise, IsWrite, are-writes, rising-right, rising-many}

-- nothing was logged yet
pub nothing-yet : (region : Region) → Follows region no_half no_half
nothing-yet region = record {
  rest = [];
  heard = refl;
  later = tt;
  may = omega arith;
  after_may = tt;
  upto = omega arith;
  other = omega arith;
  near = omega arith;
  rises = tt;
  fits = tt;
  within = tt;
}

-- the other side is as it was, as far as it is known
pub same-other : (region : Region) (h o p : Half) → p.mine ≡ o.mine → p.at ≡ o.at → Follows region h o → Follows region h p
same-other region h o p mine at f =
    let w = ap writes_of mine in
    record {
      rest = f.rest;
      heard = f.heard ∙ sym w;
      later = f.later;
      may = omega (arith, f.may, ap length w);
      after_may = subst (λ (l : List Entry). AreFrom h.other (drop h.may l)) (sym w) f.after_may;
      upto = f.upto;
      other = omega (arith, f.other, at);
      near = f.near;
      rises = f.rises;
      fits = f.fits;
      within = subst (λ (a : ℕ). AreUpTo (a + window_of region) (writes_of h.mine)) (sym at) f.within;
    }

-- a side is told the other's clock, and logs clears
pub told-clock : (region : Region) (h o : Half) (clears : List Entry) → Follows region h o
    → AllByRecursion (IsClearFrom h.at) clears → end_of (least_of region) (writes_of h.mine) ≤ h.at
    → Follows region (after_clock o.at (written o) clears h) o
told-clock region h o clears f are done = record {
  rest = f.rest;
  heard = f.heard;
  later = f.later;
  may = omega arith;
  after_may = subst (AreFrom o.at) (sym (drop_all (written o) (writes_of o.mine) (omega arith))) tt;
  upto = omega (arith, f.upto, f.other);
  other = omega arith;
  near = f.near;
  rises = rising-append (least_of region) h.mine clears f.rises (clears-rise (least_of region) h.at clears are)
      (from-later (end_of (least_of region) (writes_of h.mine)) h.at clears done (clears-from h.at clears are));
  fits = all-append FitsWord h.mine clears f.fits (clears-fit h.at clears are);
  within = subst (AreUpTo (o.at + window_of region)) (sym (writes-after-clears h.at h.mine clears are)) f.within;
}

pub other-clears : (region : Region) (h o : Half) (many : ℕ) (clears : List Entry) → Follows region o h
    → AllByRecursion (IsClearFrom h.at) clears → Follows region o (after_clock o.at many clears h)
other-clears region h o many clears f are =
    let w = writes-after-clears h.at h.mine clears are in
    record {
      rest = f.rest;
      heard = f.heard ∙ sym w;
      later = f.later;
      may = omega (arith, f.may, ap length w);
      after_may = subst (λ (l : List Entry). AreFrom o.other (drop o.may l)) (sym w) f.after_may;
      upto = f.upto;
      other = f.other;
      near = f.near;
      rises = f.rises;
      fits = f.fits;
      within = f.within;
    }

-- it is told how many writes the other has counted: where it has them all, it has all before the clock
pub none-left : (heard rest whole : List Entry) → heard ++ rest ≡ whole → length whole ≤ length heard → rest ≡ []
none-left heard [] whole e h = refl
none-left heard (x ∷ rest) whole e h =
    absurd (omega (arith, length-append heard (x ∷ rest), ap length e))

length-by : (region : Region) (h o : Half) (b : Bool) → nat_le (written o) (length h.heard) ≡ b → Follows region h o
    → Follows region (record h { upto = if b then h.other else h.upto; may = written o }) o
length-by region h o true e f =
    let none = none-left h.heard f.rest (writes_of o.mine) f.heard (leb-true (written o) (length h.heard) e) in
    record {
      rest = f.rest;
      heard = f.heard;
      later = subst (AreFrom h.other) (sym none) tt;
      may = omega arith;
      after_may = subst (AreFrom h.other) (sym (drop_all (written o) (writes_of o.mine) (omega arith))) tt;
      upto = omega arith;
      other = f.other;
      near = omega (arith, f.near, f.upto);
      rises = f.rises;
      fits = f.fits;
      within = f.within;
    }
length-by region h o false e f = record {
  rest = f.rest;
  heard = f.heard;
  later = f.later;
  may = omega arith;
  after_may = subst (AreFrom h.other) (sym (drop_all (written o) (writes_of o.mine) (omega arith))) tt;
  upto = f.upto;
  other = f.other;
  near = f.near;
  rises = f.rises;
  fits = f.fits;
  within = f.within;
}

pub told-length : (region : Region) (h o : Half) → Follows region h o → Follows region (after_length (written o) h) o
told-length region h o f = length-by region h o (nat_le (written o) (length h.heard)) refl f

-- it takes one more write
taken-by : (region : Region) (h o : Half) (e : Entry) (es : List Entry) (b : Bool) → nat_le h.may (length h.heard + 1) ≡ b
    → Follows region h o → h.heard ++ e ∷ es ≡ writes_of o.mine → AreFrom h.upto es
    → Follows region (record h { heard = h.heard ++ e ∷ []; upto = if b then h.other else h.upto }) o
taken-by region h o e es true small f is later =
    let split : (h.heard ++ e ∷ []) ++ es ≡ writes_of o.mine = append_assoc h.heard (e ∷ []) es ∙ is in
    let long = length-append h.heard (e ∷ []) in
    let after = subst (λ (l : List Entry). AreFrom h.other (drop h.may l)) (sym split) f.after_may in
    record {
      rest = es;
      heard = split;
      later = all-after (λ x. h.other ≤ entry_stamp x) h.may (h.heard ++ e ∷ []) es
          (omega (arith, long, leb-true h.may (length h.heard + 1) small)) after;
      may = f.may;
      after_may = f.after_may;
      upto = omega arith;
      other = f.other;
      near = omega (arith, f.near, f.upto);
      rises = f.rises;
      fits = f.fits;
      within = f.within;
    }
taken-by region h o e es false small f is later = record {
  rest = es;
  heard = append_assoc h.heard (e ∷ []) es ∙ is;
  later = later;
  may = f.may;
  after_may = f.after_may;
  upto = f.upto;
  other = f.other;
  near = f.near;
  rises = f.rises;
  fits = f.fits;
  within = f.within;
}

pub took-entry : (region : Region) (h o : Half) (e : Entry) (es : List Entry) → Follows region h o
    → h.heard ++ e ∷ es ≡ writes_of o.mine → AreFrom h.upto es → Follows region (after_entry e h) o
took-entry region h o e es f is later = taken-by region h o e es (nat_le h.may (length h.heard + 1)) refl f is later

-- a side puts a write
pub has-put : (region : Region) (h o : Half) (e : Entry) → Follows region h o → Follows region (after_put e h) o
has-put region h o e f = record {
  rest = f.rest;
  heard = f.heard;
  later = f.later;
  may = f.may;
  after_may = f.after_may;
  upto = f.upto;
  other = f.other;
  near = f.near;
  rises = f.rises;
  fits = f.fits;
  within = f.within;
}

-- it publishes a clock that is not further ahead than the window and one rise
pub has-published : (region : Region) (h o : Half) (clock : ℕ) → Follows region h o
    → clock ≤ h.upto + window_of region + most_of region → Follows region (after_publish clock h) o
has-published region h o clock f near = record {
  rest = f.rest;
  heard = f.heard;
  later = f.later;
  may = f.may;
  after_may = f.after_may;
  upto = f.upto;
  other = f.other;
  near = near;
  rises = f.rises;
  fits = f.fits;
  within = f.within;
}

pub other-published : (region : Region) (h o : Half) (clock : ℕ) → Follows region o h → h.at ≤ clock
    → Follows region o (after_publish clock h)
other-published region h o clock f rises = record {
  rest = f.rest;
  heard = f.heard;
  later = f.later;
  may = f.may;
  after_may = f.after_may;
  upto = f.upto;
  other = omega (arith, f.other);
  near = f.near;
  rises = f.rises;
  fits = f.fits;
  within = up-to-later (h.at + window_of region) (clock + window_of region) (writes_of o.mine) (omega arith) f.within;
}

-- the write that is counted
one-write : (t p v : ℕ) (mine : List Entry) → writes_of (mine ++ WriteAt t p v ∷ []) ≡ writes_of mine ++ WriteAt t p v ∷ []
one-write t p v mine = writes-append mine (WriteAt t p v ∷ [])

pub counted : (mine : List Entry) (e : Entry) → IsWrite e → writes_of (mine ++ e ∷ []) ≡ writes_of mine ++ e ∷ []
counted mine (WriteAt t p v) w = one-write t p v mine
counted mine (ClearAt t m) w = absurd w

one-rises : (least : ℕ) (e : Entry) → AreRising least (e ∷ [])
one-rises least (WriteAt t p v) = (tt, tt)
one-rises least (ClearAt t m) = tt

pub has-counted : (region : Region) (h o : Half) (e : Entry) → Follows region h o → IsWrite e → FitsWord e
    → end_of (least_of region) (writes_of h.mine) ≤ entry_stamp e → entry_stamp e ≤ h.other + window_of region
    → Follows region (record h { mine = h.mine ++ e ∷ []; coming = None }) o
has-counted region h o e f write fits late near = record {
  rest = f.rest;
  heard = f.heard;
  later = f.later;
  may = f.may;
  after_may = f.after_may;
  upto = f.upto;
  other = f.other;
  near = f.near;
  rises = rising-append (least_of region) h.mine (e ∷ []) f.rises (one-rises (least_of region) e) (late, tt);
  fits = all-append FitsWord h.mine (e ∷ []) f.fits (fits, tt);
  within =
      subst (AreUpTo (o.at + window_of region)) (sym (counted h.mine e write))
      (all-append (λ x. entry_stamp x ≤ o.at + window_of region) (writes_of h.mine) (e ∷ []) f.within
      (omega (arith, near, f.other), tt));
}

pub other-counted : (region : Region) (h o : Half) (e : Entry) → Follows region o h → IsWrite e → h.at ≤ entry_stamp e
    → Follows region o (record h { mine = h.mine ++ e ∷ []; coming = None })
other-counted region h o e f write late =
    let w = counted h.mine e write in
    let more = length-append (writes_of h.mine) (e ∷ []) in
    record {
      rest = f.rest ++ e ∷ [];
      heard = sym (append_assoc o.heard f.rest (e ∷ [])) ∙ ap (λ l. l ++ e ∷ []) f.heard ∙ sym w;
      later = all-append (λ x. o.upto ≤ entry_stamp x) f.rest (e ∷ []) f.later (omega (arith, f.upto, f.other), tt);
      may = omega (arith, f.may, more, ap length w);
      after_may =
          subst (λ (l : List Entry). AreFrom o.other (drop o.may l)) (sym w)
          (all-drop-append (λ x. o.other ≤ entry_stamp x) o.may (writes_of h.mine) (e ∷ []) f.may f.after_may
          (omega (arith, f.other), tt));
      upto = f.upto;
      other = f.other;
      near = f.near;
      rises = f.rises;
      fits = f.fits;
      within = f.within;
    }

-- so many rises take more than two windows and one rise
few-rises : (region : Region) (n : ℕ) → least_of region * n ≤ 2 * window_of region + most_of region → n ≤ 7281
few-rises Ntsc n h = omega arith
few-rises Pal n h = omega arith

few-by : (region : Region) (low top : ℕ) (es : List Entry) → AllByRecursion IsWrite es → AreRising (least_of region) es
    → AreFrom low es → AreUpTo top es → top ≤ low + 2 * window_of region + most_of region → length es ≤ 7282
few-by region low top [] w h from up near = omega arith
few-by region low top (e ∷ es) w h from up near =
    let many = rising-many (least_of region) top e es w h up in
    omega (arith, few-rises region (length es) (omega (arith, many, from.0)))

-- at most so many writes of a side are not in the other's `heard`
pub few-unheard : (region : Region) (h o : Half) (f : Follows region h o) → Follows region o h → length f.rest ≤ 7282
few-unheard region h o f g =
    let whole : AllByRecursion IsWrite (h.heard ++ f.rest) =
    subst (AllByRecursion IsWrite) (sym f.heard) (are-writes o.mine) in
    let rise : AreRising (least_of region) (h.heard ++ f.rest) =
    subst (AreRising (least_of region)) (sym f.heard) (writes-rise (least_of region) o.mine g.rises) in
    let within : AreUpTo (h.at + window_of region) (h.heard ++ f.rest) =
    subst (AreUpTo (h.at + window_of region)) (sym f.heard) g.within in
    few-by region h.upto (h.at + window_of region) f.rest (all-right IsWrite h.heard f.rest whole)
    (rising-right (least_of region) h.heard f.rest rise) f.later
    (all-right (λ x. entry_stamp x ≤ h.at + window_of region) h.heard f.rest within) (omega (arith, f.near))
