-- What two halves that are reunited have heard of each other.
use Rattle.std.proofs.Common.{◌≡◌, ℕ, ◌+◌, List, [], ◌∷◌, ◌++◌, Option, Some, None, length, refl, ap, sym, ◌∙◌, subst, arith, length-append}
use Rattle.std.specs.Prelude.{unwrap_or}
use Rattle.std.specs.List.{AllByRecursion}
use Rattle.snes_defs.specs.declared.ports.Side.TheVariants.{Console, Sound}
use Rattle.clock_ratio.specs.Stamp.{least_of}
use Rattle.port_entries.specs.Entry.{Entry, WriteAt, ClearAt, CarryBytes}
use Rattle.port_wire.specs.Seen.{writes_of, HasHeard, AreReunited}
use Rattle.port_wire.specs.declared.counts.Counts.{Counts}
use Rattle.word_log.specs.Sums.{count_of, or_else}
use Rattle.word_log.specs.Layout.{FitsWord}
use Rattle.word_log.specs.Known.{Half, Known, half_of, no_half, half_in, has, joined}
use Rattle.word_log.specs.Rule.{AreRising, AreFrom, Follows}
use Rattle.word_log.specs.Steps.{TellsAll}
use Rattle.word_log.specs.Passes.{shown}
use Rattle.word_log.specs.Wholes.{FewUnheard}
use Rattle.word_log.proofs.Entries.{from-later}
use Rattle.word_log.proofs.Knowing.{few-unheard}
use Rattle.word_log.proofs.Moving.{own-half}

-- the longest beginning of a list that has just these writes
pub front-of : (least upto : ℕ) (mine heard rest : List Entry) → heard ++ rest ≡ writes_of mine → AreFrom upto rest
    → AreRising least mine → HasHeard heard mine upto
front-of least upto [] [] rest e later rise = record { front = []; rest = []; writes = refl; whole_is = refl; later = tt }
front-of least upto [] (x ∷ heard) rest e later rise = absurd (omega (arith, ap length e))
front-of least upto (ClearAt t m ∷ mine) heard rest e later rise =
    let r = front-of least upto mine heard rest e later rise in
    record {
      front = ClearAt t m ∷ r.front;
      rest = r.rest;
      writes = r.writes;
      whole_is = ap (λ l. ClearAt t m ∷ l) r.whole_is;
      later = r.later;
    }
front-of least upto (WriteAt t p v ∷ mine) [] rest e later rise =
    let from : AreFrom upto (WriteAt t p v ∷ writes_of mine) = subst (AreFrom upto) e later in
    record {
      front = [];
      rest = WriteAt t p v ∷ mine;
      writes = refl;
      whole_is = refl;
      later = (from.0, from-later upto (t + least) mine (omega (arith, from.0)) rise.0);
    }
front-of least upto (WriteAt t p v ∷ mine) (x ∷ heard) rest e later rise =
    let head : x ≡ WriteAt t p v = cc in
    let tail : heard ++ rest ≡ writes_of mine = cc in
    let r = front-of least upto mine heard rest tail later rise.1 in
    record {
      front = WriteAt t p v ∷ r.front;
      rest = r.rest;
      writes = ap (λ y. writes_of (y ∷ heard)) head ∙ ap (λ l. WriteAt t p v ∷ l) r.writes;
      whole_is = ap (λ l. WriteAt t p v ∷ l) r.whole_is;
      later = r.later;
    }

bytes-by : (es : List Entry) → AllByRecursion FitsWord es → CarryBytes es
bytes-by [] h = tt
bytes-by (WriteAt t p v ∷ es) h = (h.0.2, bytes-by es h.1)
bytes-by (ClearAt t m ∷ es) h = (tt, bytes-by es h.1)

-- the halves of a view that two were made into
some-left : (o p : Option Half) → count_of o ≡ 1 → unwrap_or (or_else o p) no_half ≡ unwrap_or o no_half
some-left None p e = absurd (omega arith)
some-left (Some h) p e = refl

none-left : (o p : Option Half) → o ≡ None → or_else o p ≡ p
none-left o p e = ap (λ k. or_else k p) e

pub console-joined : (v w : Known) → has Console v ≡ 1 → half_in Console (joined v w) ≡ half_in Console v
console-joined v w e = some-left v.console w.console e

pub sound-joined : (v w : Known) → v.sound ≡ None → half_in Sound (joined v w) ≡ half_in Sound w
sound-joined v w e = ap (λ o. unwrap_or o no_half) (none-left v.sound w.sound e)

pub has-console-joined : (v w : Known) → has Console v ≡ 1 → has Console (joined v w) ≡ 1
has-console-joined v w e = some-count v.console w.console e
  where
    some-count : (o p : Option Half) → count_of o ≡ 1 → count_of (or_else o p) ≡ 1
    some-count None p e = absurd (omega arith)
    some-count (Some h) p e = refl

pub has-sound-joined : (v w : Known) → v.sound ≡ None → has Sound w ≡ 1 → has Sound (joined v w) ≡ 1
has-sound-joined v w e f = ap count_of (none-left v.sound w.sound e) ∙ f

-- what the rule knows of the two halves of a view
module _ (v u : Known) (c s : Half) (t : TellsAll v u) (one : has Console v ≡ 1) (two : has Sound v ≡ 1) (is_c : half_in Console v ≡ c) (is_s : half_in Sound v ≡ s) where
  is-console : half_of Console t.halves ≡ c
  is-console = sym (own-half v.region Console t.halves v t.known one) ∙ is_c

  is-sound : half_of Sound t.halves ≡ s
  is-sound = sym (own-half v.region Sound t.halves v t.known two) ∙ is_s

  console-follows : Follows v.region c s
  console-follows =
      subst (λ (h : Half). Follows v.region h s) is-console
      (subst (λ (h : Half). Follows v.region (half_of Console t.halves) h) is-sound (t.tied Console))

  sound-follows : Follows v.region s c
  sound-follows =
      subst (λ (h : Half). Follows v.region h c) is-sound
      (subst (λ (h : Half). Follows v.region (half_of Sound t.halves) h) is-console (t.tied Sound))

  -- each has heard the writes of a beginning of the other's list
  pub reunited-by : (k l : Counts) → AreReunited (shown c k) (shown s l)
  reunited-by k l =
      let f = console-follows in
      let g = sound-follows in
      record {
        console_heard = front-of (least_of v.region) c.upto s.mine c.heard f.rest f.heard f.later g.rises;
        sound_heard = front-of (least_of v.region) s.upto c.mine s.heard g.rest g.heard g.later f.rises;
        console_upto = omega (arith, f.upto, f.other);
        sound_upto = omega (arith, g.upto, g.other);
        console_bytes = bytes-by c.mine f.fits;
        sound_bytes = bytes-by s.mine g.fits;
      }

  -- and all of it but a few writes
  pub few-by : (k l : Counts) → FewUnheard (shown c k) (shown s l)
  few-by k l =
      let f = console-follows in
      let g = sound-follows in (
        omega (arith, few-unheard v.region c s f g, ap length f.heard, length-append c.heard f.rest),
        omega (arith, few-unheard v.region s c g f, ap length g.heard, length-append s.heard g.rest),
      )
