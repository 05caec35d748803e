-- Each step of a seat keeps the rule.
use Rattle.std.proofs.Common.{◌≡◌, ℕ, ◌+◌, ◌<◌, ◌≤◌, List, [], ◌∷◌, ◌++◌, Option, Some, None, length, get_or, set, sym, refl, ap, ◌∙◌, subst, arith, length-set, length-append}
use Rattle.std.specs.Prelude.{IfSome, slice_get}
use Rattle.std.specs.List.{AllByRecursion}
use mathlib.Core.Option.{some}
use lib.ListN.{get_elem?}
use Rattle.atomic_table.specs.Table.{State, keeps, Allows}
use Rattle.atomic_table.proofs.Lists.{set_again}
use Rattle.snes_defs.specs.declared.region.Region.{Region}
use Rattle.snes_defs.specs.declared.ports.Side.{Side}
use Rattle.clock_ratio.specs.Stamp.{least_of, most_of, window_of}
use Rattle.port_entries.specs.Entry.{Entry, entry_stamp}
use Rattle.port_wire.specs.Seen.{writes_of}
use Rattle.word_log.specs.Sums.{count_of}
use Rattle.word_log.specs.Layout.{clock_word, count_word, entry_word, entry_number, entry_in, FitsWord}
use Rattle.port_log.specs.Kept.{other_side}
use Rattle.word_log.specs.Known.{Half, Known, half_of, half_option, half_in, has, changed, told_once}
use Rattle.word_log.specs.Rule.{AreWordsOf, AreRising, AreFrom, AreUpTo, Follows, IsTrueTo, AreTied, WordsHold, written, end_of}
use Rattle.word_log.specs.Steps.{IsClearFrom, after_clock, after_length, after_entry, after_put, after_count, after_publish, with_coming, TellsClock, TellsLength, TellsEntry, TellsAll}
use Rattle.word_log.proofs.Entries.{all-right, get-next, writes-after-clears, writes-rise, writes-fit, IsWrite, are-writes, end-before}
use Rattle.word_log.proofs.Knowing.{same-other, told-clock, other-clears, told-length, took-entry, has-put, has-published, other-published, has-counted, other-counted, few-unheard}
use Rattle.word_log.proofs.Wording.{stored-else, same-words, clock-stored, entry-stored, count-stored, clock-apart, count-apart, entry-apart, read-back}
use Rattle.word_log.proofs.Moving.{moves, own-half, own-changed, other-changed, same-place, other-told, place-told, loaded, other-twice}

-- what the words say of the other side, and what it knows, of the half that a view has
module _ (region : Region) (x : Side) (s : State (Unit {0}) Known) (id : ℕ) (v : Known) (hold : WordsHold region s) (me : get_elem? s.views id ≡ some v) (has_it : has x v ≡ 1) where
  abbrev pub mine : Half
  mine = half_in x v

  abbrev pub other : Half
  other = half_of (other_side x) hold.halves

  is-mine : mine ≡ half_of x hold.halves
  is-mine = own-half region x hold.halves v (hold.known id v me) has_it

  pub my-words : AreWordsOf x s.words mine
  my-words = subst (AreWordsOf x s.words) (sym is-mine) (hold.words x)

  pub other-words : AreWordsOf (other_side x) s.words other
  other-words = hold.words (other_side x)

  pub follows : Follows region mine other
  follows = subst (λ (h : Half). Follows region h other) (sym is-mine) (hold.tied x)

  pub followed : Follows region other mine
  followed =
      subst (λ (h : Half). Follows region other h) (sym is-mine)
      (subst (λ (y : Side). Follows region other (half_of y hold.halves)) (other-twice x) (hold.tied (other_side x)))

  -- the other side's half, where the view has that too
  pub is-other : (o : Half) → half_option (other_side x) v ≡ Some o → other ≡ o
  is-other o e =
      let P : Option Half → Type 0 = λ k. IfSome k (λ g. g ≡ other) in
      let t : o ≡ other = subst P e ((hold.known id v me).half (other_side x)) in
      sym t

  pub of-region : v.region ≡ region
  of-region = (hold.known id v me).of_region x has_it

-- a load of the other side's clock
pub clock-told : (region : Region) (slots id : ℕ) (x : Side) (v : Known) (logs : ℕ → List Entry) → has x v ≡ 1
    → end_of (least_of region) (writes_of (half_in x v).mine) ≤ (half_in x v).at
    → ((found : ℕ) → AllByRecursion (IsClearFrom (half_in x v).at) (logs found))
    → Allows (WordsHold region) slots id (v, []) (clock_word (other_side x)) (λ n. n)
    (λ r n. (n.1 ≡ []) × TellsClock x v logs r n.0)
clock-told region slots id x v logs has_it done clears s hold wide me small =
    let i = clock_word (other_side x) in
    let r = get_or s.words i 0 in
    let h = mine region x s id v hold me has_it in
    let o = other region x s id v hold me has_it in
    let found : r ≡ o.at = (other-words region x s id v hold me has_it).clock in
    let f = follows region x s id v hold me has_it in
    let g = followed region x s id v hold me has_it in
    let are = clears r in
    let h' = after_clock r (written o) (logs r) h in
    let w = changed x h' (told_once v) in
    let same = writes-after-clears h.at h.mine (logs r) are in
    let fol : Follows region h' o =
    subst (λ (k : ℕ). Follows region (after_clock k (written o) (logs r) h) o) (sym found)
    (told-clock region h o (logs r) f are done) in
    let fold : Follows region o h' =
    subst (λ (k : ℕ). Follows region o (after_clock k (written o) (logs r) h)) (sym found)
    (other-clears region h o (written o) (logs r) g are) in (
      w,
      keeps,
      tt,
      loaded region s i id w
          (moves region x s id v w s.words h' hold me has_it (own-changed x h' (told_once v)) (other-told x h' v)
          (place-told x h' v) hold.wide
          (same-words x s.words h h' same refl refl (my-words region x s id v hold me has_it))
          (other-words region x s id v hold me has_it) fol fold),
      (
        refl,
        record {
          many = written o;
          after = refl;
          rises = omega (arith, f.other, found);
          whole = λ k e. found ∙ ap (λ (q : Half). q.at) (is-other region x s id v hold me has_it k e);
        },
      ),
    )

-- a load of its count
pub length-told : (region : Region) (slots id : ℕ) (x : Side) (v : Known) → has x v ≡ 1
    → Allows (WordsHold region) slots id (v, []) (count_word (other_side x)) (λ n. n)
    (λ r n. (n.1 ≡ []) × TellsLength x v r n.0)
length-told region slots id x v has_it s hold wide me small =
    let i = count_word (other_side x) in
    let r = get_or s.words i 0 in
    let h = mine region x s id v hold me has_it in
    let o = other region x s id v hold me has_it in
    let found : r ≡ written o = (other-words region x s id v hold me has_it).count in
    let f = follows region x s id v hold me has_it in
    let g = followed region x s id v hold me has_it in
    let h' = after_length r h in
    let w = changed x h' v in
    let fol : Follows region h' o =
    subst (λ (k : ℕ). Follows region (after_length k h) o) (sym found) (told-length region h o f) in (
      w,
      keeps,
      tt,
      loaded region s i id w
          (moves region x s id v w s.words h' hold me has_it (own-changed x h' v) (other-changed x h' v)
          (same-place x h' v) hold.wide
          (same-words x s.words h h' refl refl refl (my-words region x s id v hold me has_it))
          (other-words region x s id v hold me has_it) fol (same-other region o h h' refl refl g)),
      (
        refl,
        record {
          after = refl;
          more = omega (arith, found, ap length f.heard, length-append h.heard f.rest);
          upto = f.upto;
          whole = λ k e. found ∙ ap written (is-other region x s id v hold me has_it k e);
        },
      ),
    )

-- a load of one of its entries
entry-at : (region : Region) (h o : Half) (words : List ℕ) (x : Side) (rest : List Entry) → Follows region h o → Follows region o h
    → AreWordsOf x words o → length rest ≤ 7282 → h.heard ++ rest ≡ writes_of o.mine → AreFrom h.upto rest
    → length h.heard < h.may
    → (e : Entry) × (es : List Entry) × (h.heard ++ e ∷ es ≡ writes_of o.mine) × AreFrom h.upto es × (h.upto ≤ entry_stamp e)
    × (get_or words (entry_word x (length h.heard)) 0 ≡ entry_number e)
entry-at region h o words x [] f g a few is later may =
    absurd (omega (arith, f.may, ap length is, length-append h.heard []))
entry-at region h o words x (e ∷ es) f g a few is later may =
    let at : slice_get (writes_of o.mine) (length h.heard) ≡ Some e =
    ap (λ l. slice_get l (length h.heard)) (sym is) ∙ get-next h.heard e es in (
      e,
      es,
      is,
      later.1,
      later.0,
      a.entries (length h.heard) e at (omega (arith, few, ap length is, length-append h.heard (e ∷ es), little o.coming)),
    )
  where
    little : (k : Option Entry) → count_of k ≤ 1
    little None = omega arith
    little (Some c) = omega arith

pub entry-told : (region : Region) (slots id : ℕ) (x : Side) (v : Known) → has x v ≡ 1
    → length (half_in x v).heard < (half_in x v).may
    → Allows (WordsHold region) slots id (v, []) (entry_word (other_side x) (length (half_in x v).heard)) (λ n. n)
    (λ r n. (n.1 ≡ []) × TellsEntry x v r n.0)
entry-told region slots id x v has_it may s hold wide me small =
    let h = mine region x s id v hold me has_it in
    let o = other region x s id v hold me has_it in
    let i = entry_word (other_side x) (length h.heard) in
    let r = get_or s.words i 0 in
    let f = follows region x s id v hold me has_it in
    let g = followed region x s id v hold me has_it in
    let t = entry-at region h o s.words (other_side x) f.rest f g (other-words region x s id v hold me has_it)
    (few-unheard region h o f g) f.heard f.later may in
    let e = t.0 in
    let es = t.1 in
    let is = t.2 in
    let write : AllByRecursion IsWrite (h.heard ++ e ∷ es) = subst (AllByRecursion IsWrite) (sym is) (are-writes o.mine) in
    let fits : AllByRecursion FitsWord (h.heard ++ e ∷ es) =
    subst (AllByRecursion FitsWord) (sym is) (writes-fit o.mine g.fits) in
    let up : AreUpTo (h.at + window_of region) (h.heard ++ e ∷ es) =
    subst (AreUpTo (h.at + window_of region)) (sym is) g.within in
    let one = all-right IsWrite h.heard (e ∷ es) write in
    let fit = all-right FitsWord h.heard (e ∷ es) fits in
    let near = all-right (λ z. entry_stamp z ≤ h.at + window_of region) h.heard (e ∷ es) up in
    let same : entry_in r ≡ e = ap entry_in t.5 ∙ read-back e one.0 fit.0 in
    let h' = after_entry (entry_in r) h in
    let w = changed x h' v in
    let fol : Follows region h' o =
    subst (λ (k : Entry). Follows region (after_entry k h) o) (sym same) (took-entry region h o e es f is t.3) in
    let place = of-region region x s id v hold me has_it in
    let stamp : entry_stamp (entry_in r) ≡ entry_stamp e = ap entry_stamp same in
    let rising = subst (λ (l : List Entry). AreRising (least_of region) l) (sym is)
    (writes-rise (least_of region) o.mine g.rises) in
    let late = end-before (least_of region) h.heard e es write rising in (
      w,
      keeps,
      tt,
      loaded region s i id w
          (moves region x s id v w s.words h' hold me has_it (own-changed x h' v) (other-changed x h' v)
          (same-place x h' v) hold.wide
          (same-words x s.words h h' refl refl refl (my-words region x s id v hold me has_it))
          (other-words region x s id v hold me has_it) fol (same-other region o h h' refl refl g)),
      (
        refl,
        record {
          after = refl;
          from_upto = omega (arith, t.4, stamp);
          rises = subst (λ (k : Region). end_of (least_of k) h.heard ≤ entry_stamp (entry_in r)) (sym place) (omega (arith, late, stamp));
          within = subst (λ (k : Region). entry_stamp (entry_in r) ≤ h.at + window_of k) (sym place) (omega (arith, near.0, stamp));
        },
      ),
    )

-- a store of an own entry word
pub entry-put : (region : Region) (slots id : ℕ) (x : Side) (v : Known) (n : ℕ) → has x v ≡ 1
    → entry_number (entry_in n) ≡ n
    → Allows (WordsHold region) slots id (v, []) (entry_word x (written (half_in x v))) (λ _. n)
    (λ _ m. m ≡ (changed x (after_put (entry_in n) (half_in x v)) v, []))
entry-put region slots id x v n has_it back s hold wide me small =
    let h = mine region x s id v hold me has_it in
    let o = other region x s id v hold me has_it in
    let i = entry_word x (written h) in
    let f = follows region x s id v hold me has_it in
    let g = followed region x s id v hold me has_it in
    let h' = after_put (entry_in n) h in
    let w = changed x h' v in (
      w,
      keeps,
      tt,
      moves region x s id v w (set s.words i n) h' hold me has_it (own-changed x h' v) (other-changed x h' v)
          (same-place x h' v) (length-set s.words i n ∙ hold.wide)
          (subst (λ (k : ℕ). AreWordsOf x (set s.words i k) h') back
          (entry-stored x s.words h (entry_in n) hold.wide (my-words region x s id v hold me has_it)))
          (stored-else (other_side x) s.words o i n (entry-apart x (written h)) (other-words region x s id v hold me has_it))
          (has-put region h o (entry_in n) f) (same-other region o h h' refl refl g),
      refl,
    )

-- a store of the own count
pub count-put : (region : Region) (slots id : ℕ) (x : Side) (v : Known) (e : Entry) → has x v ≡ 1
    → (half_in x v).coming ≡ Some e → IsWrite e → FitsWord e
    → end_of (least_of region) (writes_of (half_in x v).mine) ≤ (half_in x v).at
    → (half_in x v).at ≤ entry_stamp e → entry_stamp e ≤ (half_in x v).other + window_of region
    → Allows (WordsHold region) slots id (v, []) (count_word x) (λ _. written (half_in x v) + 1)
    (λ _ m. m ≡ (changed x (after_count (half_in x v)) v, []))
count-put region slots id x v e has_it coming write fits done late near s hold wide me small =
    let h = mine region x s id v hold me has_it in
    let o = other region x s id v hold me has_it in
    let i = count_word x in
    let n = written h + 1 in
    let f = follows region x s id v hold me has_it in
    let g = followed region x s id v hold me has_it in
    let h' : Half = record h { mine = h.mine ++ e ∷ []; coming = None } in
    let is : after_count h ≡ h' = ap (λ (k : Option Entry). let q : Half = record h { mine = with_coming k h.mine; coming = None } in q) coming in
    let w = changed x h' v in (
      w,
      keeps,
      tt,
      moves region x s id v w (set s.words i n) h' hold me has_it (own-changed x h' v) (other-changed x h' v)
          (same-place x h' v) (length-set s.words i n ∙ hold.wide)
          (count-stored x s.words h e hold.wide write coming (my-words region x s id v hold me has_it))
          (stored-else (other_side x) s.words o i n (count-apart x) (other-words region x s id v hold me has_it))
          (has-counted region h o e f write fits (omega (arith, done, late)) near) (other-counted region h o e g write late),
      ap (λ (q : Half). (changed x q v, [])) (sym is),
    )

-- a store of the own clock
pub clock-put : (region : Region) (slots id : ℕ) (x : Side) (v : Known) (clock : ℕ) → has x v ≡ 1
    → (half_in x v).at ≤ clock → clock ≤ (half_in x v).upto + window_of region + most_of region
    → Allows (WordsHold region) slots id (v, []) (clock_word x) (λ _. clock)
    (λ _ m. m ≡ (changed x (after_publish clock (half_in x v)) v, []))
clock-put region slots id x v clock has_it rises near s hold wide me small =
    let h = mine region x s id v hold me has_it in
    let o = other region x s id v hold me has_it in
    let i = clock_word x in
    let f = follows region x s id v hold me has_it in
    let g = followed region x s id v hold me has_it in
    let h' = after_publish clock h in
    let w = changed x h' v in (
      w,
      keeps,
      tt,
      moves region x s id v w (set s.words i clock) h' hold me has_it (own-changed x h' v) (other-changed x h' v)
          (same-place x h' v) (length-set s.words i clock ∙ hold.wide)
          (clock-stored x s.words h clock hold.wide (my-words region x s id v hold me has_it))
          (stored-else (other_side x) s.words o i clock (clock-apart x) (other-words region x s id v hold me has_it))
          (has-published region h o clock f near) (other-published region h o clock g rises),
      refl,
    )

-- a look at any word
pub looked : (region : Region) (slots id : ℕ) (v : Known) → v.region ≡ region
    → Allows (WordsHold region) slots id (v, []) 0 (λ n. n) (λ _ n. (n.1 ≡ []) × TellsAll v n.0)
looked region slots id v place s hold wide me small =
    let views = set_again s.views id v me in
    let State' = State (Unit {0}) Known in
    let same : WordsHold region (record { words = s.words; homes = s.homes; views = set s.views id v }) =
    subst (λ (vs : List Known). let t : State' = record { words = s.words; homes = s.homes; views = vs } in WordsHold region t) (sym views) hold in (
      v,
      keeps,
      tt,
      loaded region s 0 id v same,
      (
        refl,
        record {
          same = refl;
          halves = hold.halves;
          known = subst (λ (k : Region). IsTrueTo k hold.halves v) (sym place) (hold.known id v me);
          tied = subst (λ (k : Region). AreTied k hold.halves) (sym place) hold.tied;
        },
      ),
    )
