-- Each step of the list table keeps its rule.
use Rattle.std.proofs.Common.{◌≡◌, ℕ, zero, suc, ◌+◌, ◌%◌, ◌^◌, ◌≤◌, ◌≢◌, List, [], ◌∷◌, ◌++◌, Option, Some, None, length, get_or, set, sym, refl, ap, ◌∙◌, subst, arith, append_assoc, append-nil, length-append, length-set, get_or-set_same, get_or-set_other, ⊎_elim}
use Rattle.std.specs.Prelude.{option_map, IfSome}
use Rattle.std.specs.List.{AllByRecursion}
use Rattle.std.proofs.lemmas.List.{set-get_or}
use mathlib.Core.Option.{some, some-injective}
use lib.ListN.{get_elem?}
use Rattle.atomic_table.specs.Table.{State, Me, keeps, stepped, Allows, Splits, Joins, opening}
use Rattle.atomic_table.proofs.Lists.{at_set, at_snoc, set_else, set_again}
use Rattle.snes_defs.specs.declared.ports.Side.{Side}
use Rattle.snes_defs.specs.declared.ports.Side.TheVariants.{Console, Sound}
use Rattle.port_entries.specs.Entry.{Entry, entry_stamp}
use Rattle.port_log.specs.Known.{Half, Book, ListKnown, spent_list}
use Rattle.port_log.specs.Sums.{count_of, or_else}
use Rattle.port_log.specs.ListRule.{IsHeard, IsTrueHalf, IsTrueTo, IsOrderly, has_console, has_sound, has_book, ListHolds, logged, half_by, told_by, no_book, book_in, without_book, note_of, console_half, sound_half, joined, first_view}
use Rattle.port_log.proofs.Totals.{total-append, total-set, two-le}

-- a look changes nothing, and tells what the book is to the view
pub looks : (slots id : ℕ) (v : ListKnown)
    → Allows ListHolds slots id (v, []) 0 (λ n. n)
    (λ _ m. (m ≡ (v, [])) × ((b : Book) × IsTrueTo b v × IsOrderly b))
looks slots id v s h wide me small =
    let words = set-get_or s.words 0 0 in
    let views = set_again s.views id v me in
    let State' = State (Unit {0}) ListKnown in
    let same : stepped s 0 (get_or s.words 0 0) id [] v keeps ≡ s =
    ap (λ (ws : List ℕ). let t : State' = record { words = ws; homes = s.homes; views = set s.views id v } in t) words
    ∙ ap (λ (vs : List ListKnown). let t : State' = record { words = s.words; homes = s.homes; views = vs } in t) views in
    (v, keeps, tt, subst ListHolds (sym same) h, (refl, (h.kept, h.known id v me, h.orderly)))

-- what is heard of a list that grows by later entries
heard-more : (heard whole more : List Entry) (upto : ℕ) → IsHeard heard whole upto
    → AllByRecursion (λ e. upto ≤ entry_stamp e) more → IsHeard heard (whole ++ more) upto
heard-more heard whole more upto h later = record {
  rest = h.rest ++ more;
  whole_is = sym (append_assoc heard h.rest more) ∙ ap (λ l. l ++ more) h.whole_is;
  later = all-append h.rest more h.later later;
}
  where
    all-append : (xs ys : List Entry) → AllByRecursion (λ e. upto ≤ entry_stamp e) xs
        → AllByRecursion (λ e. upto ≤ entry_stamp e) ys → AllByRecursion (λ e. upto ≤ entry_stamp e) (xs ++ ys)
    all-append [] ys p q = q
    all-append (x ∷ xs) ys p q = (p.0, all-append xs ys p.1 q)

later-from : (a b : ℕ) (es : List Entry) → a ≤ b → AllByRecursion (λ e. b ≤ entry_stamp e) es
    → AllByRecursion (λ e. a ≤ entry_stamp e) es
later-from a b [] h p = tt
later-from a b (e ∷ es) h p = (omega (arith, p.0), later-from a b es h p.1)

-- each half of a view that was told is so by the book
half-true : (side : Side) (b : Book) → IsTrueHalf side b (half_by side b)
half-true side b = record {
  mine = refl;
  at = refl;
  heard = record { rest = []; whole_is = append-nil _; later = tt };
  upto = omega arith;
}

told-half : (side : Side) (b : Book) (o : Option Half)
    → IfSome (option_map (λ _. half_by side b) o) (IsTrueHalf side b)
told-half side b None = tt
told-half side b (Some h) = half-true side b

told-true : (b : Book) (v : ListKnown) → IsTrueTo b (told_by b v)
told-true b v = record {
  console = told-half Console b v.console;
  sound = told-half Sound b v.sound;
  book = refl;
}

count-map : {A B : Type 0} (f : A → B) (o : Option A) → count_of (option_map f o) ≡ count_of o
count-map f None = refl
count-map f (Some x) = refl

-- a part that stands in another view stands not in this one
none-of : {A : Type 0} (o : Option A) (P : A → Type 0) → count_of o ≡ 0 → IfSome o P
none-of None P e = tt
none-of (Some x) P e = absurd (omega arith)

-- the halves of the other views stay true
pub other-sound : (b : Book) (es : List Entry) (clock : ℕ) (o : Option Half) → b.console_clock ≤ clock
    → AllByRecursion (λ e. b.console_clock ≤ entry_stamp e) es → IfSome o (IsTrueHalf Sound b)
    → IfSome o (IsTrueHalf Sound (logged Console es clock b))
other-sound b es clock None h later p = tt
other-sound b es clock (Some x) h later p = record {
  mine = p.mine;
  at = p.at;
  heard = heard-more x.heard b.entries.console es x.upto p.heard (later-from x.upto b.console_clock es p.upto later);
  upto = omega (arith, p.upto);
}

pub other-console : (b : Book) (es : List Entry) (clock : ℕ) (o : Option Half) → b.sound_clock ≤ clock
    → AllByRecursion (λ e. b.sound_clock ≤ entry_stamp e) es → IfSome o (IsTrueHalf Console b)
    → IfSome o (IsTrueHalf Console (logged Sound es clock b))
other-console b es clock None h later p = tt
other-console b es clock (Some x) h later p = record {
  mine = p.mine;
  at = p.at;
  heard = heard-more x.heard b.entries.sound es x.upto p.heard (later-from x.upto b.sound_clock es p.upto later);
  upto = omega (arith, p.upto);
}

-- the count of a longer list, modulo 2^64
counted : (n : ℕ) (xs es : List Entry) (k : ℕ) → n ≡ length xs % 2 ^ 64 → k ≡ length es
    → (n + k) % 2 ^ 64 ≡ length (xs ++ es) % 2 ^ 64
counted n xs es k e f =
    ap (λ m. (m + k) % 2 ^ 64) e
    ∙ mod-add (length xs) k
    ∙ ap (λ m. m % 2 ^ 64) (ap (λ m. length xs + m) f ∙ sym (length-append xs es))
  where
    mod-add : (a k : ℕ) → (a % 2 ^ 64 + k) % 2 ^ 64 ≡ (a + k) % 2 ^ 64
    mod-add a k = omega arith

known-book : (b kept : Book) (o : Option Book) → o ≡ Some b → IfSome o (λ c. c ≡ kept) → b ≡ kept
known-book b kept o e h = let P : Option Book → Type 0 = λ x. IfSome x (λ c. c ≡ kept) in subst P e h

-- Console tells the book of what it logged, and of a clock
pub tells-console : (slots id k : ℕ) (v : ListKnown) (b : Book) (es : List Entry) (clock : ℕ)
    → v.book ≡ Some b → count_of v.console ≡ 1 → k ≡ length es → b.console_clock ≤ clock
    → AllByRecursion (λ e. b.console_clock ≤ entry_stamp e) es → IsOrderly (logged Console es clock b)
    → Allows ListHolds slots id (v, []) 0 (λ n. (n + k) % 2 ^ 64)
    (λ _ m. m ≡ (told_by (logged Console es clock b) v, []))
tells-console slots id k v b es clock has_it own many rises later orderly s h wide me small =
    let same = known-book b h.kept v.book has_it (h.known id v me).book in
    let after = logged Console es clock b in
    let w = told_by after v in
    let x = (get_or s.words 0 0 + k) % 2 ^ 64 in
    let held : count_of v.book ≡ 1 = ap count_of has_it in
    let a = total-set has_console s.views id v w me in
    let c = total-set has_sound s.views id v w me in
    let d = total-set has_book s.views id v w me in
    let ca = count-map (λ _. half_by Console after) v.console in
    let cc' = count-map (λ _. half_by Sound after) v.sound in
    let others : (j : ℕ) (u : ListKnown) → j ≢ id → get_elem? s.views j ≡ some u → IsTrueTo after u =
    λ j u ne at.
    let was : IsTrueTo b u = subst (λ (x : Book). IsTrueTo x u) (sym same) (h.known j u at) in
    let mine : count_of u.console ≡ 0 = omega (arith, h.console, own, two-le has_console s.views id j v u ne me at) in
    let note : count_of u.book ≡ 0 = omega (arith, h.book, held, two-le has_book s.views id j v u ne me at) in
    record {
      console = none-of u.console (IsTrueHalf Console after) mine;
      sound = other-sound b es clock u.sound rises later was.sound;
      book = none-of u.book (λ c. c ≡ after) note;
    } in (
      w,
      keeps,
      tt,
      record {
        kept = after;
        wide = length-set s.words 0 x ∙ h.wide;
        console_count =
            get_or-set_same s.words 0 x 0 (omega (arith, h.wide))
            ∙ counted (get_or s.words 0 0) b.entries.console es k
            (h.console_count ∙ ap (λ (y : Book). length y.entries.console % 2 ^ 64) (sym same)) many;
        sound_count =
            get_or-set_other s.words 0 1 x 0 (λ e. absurd (omega arith))
            ∙ h.sound_count ∙ ap (λ (y : Book). length y.entries.sound % 2 ^ 64) (sym same);
        console = omega (arith, a, ca, h.console);
        sound = omega (arith, c, cc', h.sound);
        book = omega (arith, d, held, h.book);
        known = λ j u at.
            ⊎_elim
            (λ t. subst (λ (y : ListKnown). IsTrueTo after y) t.1 (told-true after v))
            (λ t. others j u t.0 t.1)
            (at_set s.views id j w u at);
        orderly = orderly;
      },
      refl,
    )

-- Sound tells the book of what it logged, and of a clock
pub tells-sound : (slots id k : ℕ) (v : ListKnown) (b : Book) (es : List Entry) (clock : ℕ)
    → v.book ≡ Some b → count_of v.sound ≡ 1 → k ≡ length es → b.sound_clock ≤ clock
    → AllByRecursion (λ e. b.sound_clock ≤ entry_stamp e) es → IsOrderly (logged Sound es clock b)
    → Allows ListHolds slots id (v, []) 1 (λ n. (n + k) % 2 ^ 64)
    (λ _ m. m ≡ (told_by (logged Sound es clock b) v, []))
tells-sound slots id k v b es clock has_it own many rises later orderly s h wide me small =
    let same = known-book b h.kept v.book has_it (h.known id v me).book in
    let after = logged Sound es clock b in
    let w = told_by after v in
    let x = (get_or s.words 1 0 + k) % 2 ^ 64 in
    let held : count_of v.book ≡ 1 = ap count_of has_it in
    let a = total-set has_console s.views id v w me in
    let c = total-set has_sound s.views id v w me in
    let d = total-set has_book s.views id v w me in
    let ca = count-map (λ _. half_by Console after) v.console in
    let cc' = count-map (λ _. half_by Sound after) v.sound in
    let others : (j : ℕ) (u : ListKnown) → j ≢ id → get_elem? s.views j ≡ some u → IsTrueTo after u =
    λ j u ne at.
    let was : IsTrueTo b u = subst (λ (x : Book). IsTrueTo x u) (sym same) (h.known j u at) in
    let mine : count_of u.sound ≡ 0 = omega (arith, h.sound, own, two-le has_sound s.views id j v u ne me at) in
    let note : count_of u.book ≡ 0 = omega (arith, h.book, held, two-le has_book s.views id j v u ne me at) in
    record {
      sound = none-of u.sound (IsTrueHalf Sound after) mine;
      console = other-console b es clock u.console rises later was.console;
      book = none-of u.book (λ c. c ≡ after) note;
    } in (
      w,
      keeps,
      tt,
      record {
        kept = after;
        wide = length-set s.words 1 x ∙ h.wide;
        sound_count =
            get_or-set_same s.words 1 x 0 (omega (arith, h.wide))
            ∙ counted (get_or s.words 1 0) b.entries.sound es k
            (h.sound_count ∙ ap (λ (y : Book). length y.entries.sound % 2 ^ 64) (sym same)) many;
        console_count =
            get_or-set_other s.words 1 0 x 0 (λ e. absurd (omega arith))
            ∙ h.console_count ∙ ap (λ (y : Book). length y.entries.console % 2 ^ 64) (sym same);
        console = omega (arith, a, ca, h.console);
        sound = omega (arith, c, cc', h.sound);
        book = omega (arith, d, held, h.book);
        known = λ j u at.
            ⊎_elim
            (λ t. subst (λ (y : ListKnown). IsTrueTo after y) t.1 (told-true after v))
            (λ t. others j u t.0 t.1)
            (at_set s.views id j w u at);
        orderly = orderly;
      },
      refl,
    )

-- a view is cut in two, and each half of it and the book go to one of them
cut-by : (id : ℕ) (v left right : ListKnown) → has_console left + has_console right ≡ has_console v
    → has_sound left + has_sound right ≡ has_sound v → has_book left + has_book right ≡ has_book v
    → ((b : Book) → IsTrueTo b v → IsTrueTo b left × IsTrueTo b right)
    → Splits ListHolds id v left right
cut-by id v left right consoles sounds books known s h me =
    let views = set s.views id left in
    let a = total-set has_console s.views id v left me in
    let c = total-set has_sound s.views id v left me in
    let d = total-set has_book s.views id v left me in
    let a' = total-append has_console views (right ∷ []) in
    let c' = total-append has_sound views (right ∷ []) in
    let d' = total-append has_book views (right ∷ []) in
    let both = known h.kept (h.known id v me) in
    record {
      kept = h.kept;
      wide = h.wide;
      console_count = h.console_count;
      sound_count = h.sound_count;
      console = omega (arith, a, a', consoles, h.console);
      sound = omega (arith, c, c', sounds, h.sound);
      book = omega (arith, d, d', books, h.book);
      known = λ j u at.
          ⊎_elim
          (λ there.
          ⊎_elim
          (λ t. subst (λ (y : ListKnown). IsTrueTo h.kept y) t.1 both.0)
          (λ t. h.known j u t.1)
          (at_set s.views id j left u there))
          (λ e. subst (λ (y : ListKnown). IsTrueTo h.kept y) e both.1)
          (at_snoc views right u j at);
      orderly = h.orderly;
    }

-- the book goes to a note
pub notes : (id : ℕ) (v : ListKnown) → Splits ListHolds id v (without_book v) (note_of v)
notes id v =
    cut-by id v (without_book v) (note_of v) (omega arith) (omega arith) (omega arith)
    (λ b t. (record { console = t.console; sound = t.sound; book = tt }, record { console = tt; sound = tt; book = t.book }))

-- the sound side's half goes to a seat of its own
pub halves : (id : ℕ) (v : ListKnown) → Splits ListHolds id v (console_half v) (sound_half v)
halves id v =
    cut-by id v (console_half v) (sound_half v) (omega arith) (omega arith) (omega arith)
    (λ b t. (record { console = t.console; sound = tt; book = t.book }, record { console = tt; sound = t.sound; book = tt }))

count-or : {A : Type 0} (p q : Option A) → count_of p + count_of q ≤ 1
    → count_of (or_else p q) ≡ count_of p + count_of q
count-or None q h = omega arith
count-or (Some x) None h = omega arith
count-or (Some x) (Some y) h = absurd (omega arith)

or-true : {A : Type 0} (P : A → Type 0) (p q : Option A) → IfSome p P → IfSome q P → IfSome (or_else p q) P
or-true P None q a b = b
or-true P (Some x) q a b = a

-- two seats are made one
pub joins : (id : ℕ) (v : ListKnown) (other : ℕ) (w : ListKnown)
    → Joins ListHolds id v other w (joined v w) spent_list
joins id v other w s h me ne there =
    let both = joined v w in
    let at = sym (set_else s.views id other both ne) ∙ there in
    let pc : count_of v.console + count_of w.console ≤ 1 = omega (arith, h.console, two-le has_console s.views id other v w ne me at) in
    let ps : count_of v.sound + count_of w.sound ≤ 1 = omega (arith, h.sound, two-le has_sound s.views id other v w ne me at) in
    let pb : count_of v.book + count_of w.book ≤ 1 = omega (arith, h.book, two-le has_book s.views id other v w ne me at) in
    let views = set s.views id both in
    let a = total-set has_console s.views id v both me in
    let c = total-set has_sound s.views id v both me in
    let d = total-set has_book s.views id v both me in
    let a' = total-set has_console views other w spent_list there in
    let c' = total-set has_sound views other w spent_list there in
    let d' = total-set has_book views other w spent_list there in
    let oc = count-or v.console w.console pc in
    let os = count-or v.sound w.sound ps in
    let ob = count-or v.book w.book pb in
    let tv = h.known id v me in
    let tw = h.known other w at in
    let true' : IsTrueTo h.kept both = record {
      console = or-true (IsTrueHalf Console h.kept) v.console w.console tv.console tw.console;
      sound = or-true (IsTrueHalf Sound h.kept) v.sound w.sound tv.sound tw.sound;
      book = or-true (λ c. c ≡ h.kept) v.book w.book tv.book tw.book;
    } in
    let spent : IsTrueTo h.kept spent_list = record { console = tt; sound = tt; book = tt } in
    record {
      kept = h.kept;
      wide = h.wide;
      console_count = h.console_count;
      sound_count = h.sound_count;
      console = omega (arith, a, a', oc, h.console);
      sound = omega (arith, c, c', os, h.sound);
      book = omega (arith, d, d', ob, h.book);
      known = λ j u seen.
          ⊎_elim
          (λ t. subst (λ (y : ListKnown). IsTrueTo h.kept y) t.1 spent)
          (λ t.
          ⊎_elim
          (λ r. subst (λ (y : ListKnown). IsTrueTo h.kept y) r.1 true')
          (λ r. h.known j u r.1)
          (at_set s.views id j both u t.1))
          (at_set views other j spent_list u seen);
      orderly = h.orderly;
    }

-- the table at the start
pub begins : ListHolds (opening (0 ∷ 0 ∷ []) [] first_view)
begins = record {
  kept = no_book;
  wide = refl;
  console_count = refl;
  sound_count = refl;
  console = refl;
  sound = refl;
  book = refl;
  known = first;
  orderly = record { console = tt; sound = tt; console_bytes = tt; sound_bytes = tt };
}
  where
    first : (j : ℕ) (v : ListKnown) → get_elem? (first_view ∷ []) j ≡ some v → IsTrueTo no_book v
    first zero v e = subst (λ (y : ListKnown). IsTrueTo no_book y) (some-injective first_view v e) (record {
      console = half-true Console no_book;
      sound = half-true Sound no_book;
      book = refl;
    })
    first (suc j) v e = cc

-- the same for a seat with no slot
pub tell-console : (slots id k : ℕ) (m : Me (Unit {0}) ListKnown) (es more : List Entry) (clock now : ℕ)
    → es ≡ more → clock ≡ now → m.1 ≡ [] → m.0.book ≡ Some (book_in m.0) → count_of m.0.console ≡ 1
    → k ≡ length more → (book_in m.0).console_clock ≤ now
    → AllByRecursion (λ e. (book_in m.0).console_clock ≤ entry_stamp e) more
    → IsOrderly (logged Console more now (book_in m.0))
    → Allows ListHolds slots id m 0 (λ n. (n + k) % 2 ^ 64)
    (λ _ r. r ≡ (told_by (logged Console es clock (book_in m.0)) m.0, []))
tell-console slots id k m es more clock now same at_once empty has_it own many rises later orderly =
    subst
    (λ (l : List Entry). Allows ListHolds slots id m 0 (λ n. (n + k) % 2 ^ 64)
    (λ _ r. r ≡ (told_by (logged Console l clock (book_in m.0)) m.0, [])))
    (sym same)
    (subst
    (λ (t : ℕ). Allows ListHolds slots id m 0 (λ n. (n + k) % 2 ^ 64)
    (λ _ r. r ≡ (told_by (logged Console more t (book_in m.0)) m.0, [])))
    (sym at_once)
    (subst
    (λ (c : List (ℕ × Unit {0})). Allows ListHolds slots id (m.0, c) 0 (λ n. (n + k) % 2 ^ 64)
    (λ _ r. r ≡ (told_by (logged Console more now (book_in m.0)) m.0, [])))
    (sym empty)
    (tells-console slots id k m.0 (book_in m.0) more now has_it own many rises later orderly)))

-- the same for a seat with no slot
pub tell-sound : (slots id k : ℕ) (m : Me (Unit {0}) ListKnown) (es more : List Entry) (clock now : ℕ)
    → es ≡ more → clock ≡ now → m.1 ≡ [] → m.0.book ≡ Some (book_in m.0) → count_of m.0.sound ≡ 1
    → k ≡ length more → (book_in m.0).sound_clock ≤ now
    → AllByRecursion (λ e. (book_in m.0).sound_clock ≤ entry_stamp e) more
    → IsOrderly (logged Sound more now (book_in m.0))
    → Allows ListHolds slots id m 1 (λ n. (n + k) % 2 ^ 64)
    (λ _ r. r ≡ (told_by (logged Sound es clock (book_in m.0)) m.0, []))
tell-sound slots id k m es more clock now same at_once empty has_it own many rises later orderly =
    subst
    (λ (l : List Entry). Allows ListHolds slots id m 1 (λ n. (n + k) % 2 ^ 64)
    (λ _ r. r ≡ (told_by (logged Sound l clock (book_in m.0)) m.0, [])))
    (sym same)
    (subst
    (λ (t : ℕ). Allows ListHolds slots id m 1 (λ n. (n + k) % 2 ^ 64)
    (λ _ r. r ≡ (told_by (logged Sound more t (book_in m.0)) m.0, [])))
    (sym at_once)
    (subst
    (λ (c : List (ℕ × Unit {0})). Allows ListHolds slots id (m.0, c) 1 (λ n. (n + k) % 2 ^ 64)
    (λ _ r. r ≡ (told_by (logged Sound more now (book_in m.0)) m.0, [])))
    (sym empty)
    (tells-sound slots id k m.0 (book_in m.0) more now has_it own many rises later orderly)))

-- a look of a seat with no slot
pub look : (slots id : ℕ) (m : Me (Unit {0}) ListKnown) → m.1 ≡ []
    → Allows ListHolds slots id m 0 (λ n. n) (λ _ r. (r ≡ m) × ((b : Book) × IsTrueTo b m.0 × IsOrderly b))
look slots id m empty =
    subst
    (λ (c : List (ℕ × Unit {0})). Allows ListHolds slots id (m.0, c) 0 (λ n. n)
    (λ _ r. (r ≡ (m.0, c)) × ((b : Book) × IsTrueTo b m.0 × IsOrderly b)))
    (sym empty)
    (looks slots id m.0)
