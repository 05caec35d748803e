-- Seats are cut in two and made one, the first one, and each step as the code makes it: by the number of its word.
use Rattle.std.proofs.Common.{◌≡◌, ℕ, zero, suc, ◌+◌, ◌<◌, ◌≤◌, List, [], ◌∷◌, Option, Some, None, length, get_or, set, sym, refl, ap, ◌∙◌, subst, arith, ⊎_elim}
use Rattle.std.specs.Prelude.{IfSome, replicate}
use Rattle.std.specs.List.{AllByRecursion}
use mathlib.Core.Option.{some, some-injective}
use lib.ListN.{get_elem?}
use Rattle.atomic_table.specs.Table.{Me, Allows, Splits, Joins, opening}
use Rattle.atomic_table.proofs.Lists.{at_set, at_snoc, set_else}
use Rattle.snes_defs.specs.declared.region.Region.{Region}
use Rattle.snes_defs.specs.declared.ports.Side.{Side}
use Rattle.snes_defs.specs.declared.ports.Side.TheVariants.{Console, Sound}
use Rattle.clock_ratio.specs.Stamp.{least_of, most_of, window_of}
use Rattle.port_entries.specs.Entry.{Entry, entry_stamp}
use Rattle.port_wire.specs.Seen.{writes_of}
use Rattle.word_log.specs.Sums.{total, count_of, or_else}
use Rattle.word_log.specs.Layout.{all_words, clock_word, count_word, entry_word, owner_of, entry_number, entry_in, FitsWord}
use Rattle.port_log.specs.Kept.{other_side}
use Rattle.word_log.specs.Known.{Known, Halves, half_of, no_half, half_option, half_in, has, changed, spent, first_view, console_half, sound_half, joined}
use Rattle.word_log.specs.Rule.{AreWordsOf, Follows, IsTrueTo, WordsHold, written, end_of}
use Rattle.word_log.specs.Steps.{IsClearFrom, after_put, after_count, after_publish, TellsClock, TellsLength, TellsEntry, TellsAll}
use Rattle.word_log.proofs.Totals.{total-append, total-set, two-le}
use Rattle.word_log.proofs.Entries.{IsWrite}
use Rattle.word_log.proofs.Knowing.{nothing-yet}
use Rattle.word_log.proofs.Wording.{clock-owner, count-owner, entry-owner}
use Rattle.word_log.proofs.Moving.{other-twice}
use Rattle.word_log.proofs.Steps.{clock-told, length-told, entry-told, entry-put, count-put, clock-put, looked}

-- the sound side's half goes to a seat of its own
left-true : (region : Region) (b : Halves) (v : Known) → IsTrueTo region b v → IsTrueTo region b (console_half v)
left-true region b v t = record { half = halves; of_region = places }
  where
    halves : (y : Side) → IfSome (half_option y (console_half v)) (λ h. h ≡ half_of y b)
    halves Console = t.half Console
    halves Sound = tt

    places : (y : Side) → has y (console_half v) ≡ 1 → v.region ≡ region
    places Console e = t.of_region Console e
    places Sound e = absurd (omega arith)

right-true : (region : Region) (b : Halves) (v : Known) → IsTrueTo region b v → IsTrueTo region b (sound_half v)
right-true region b v t = record { half = halves; of_region = places }
  where
    halves : (y : Side) → IfSome (half_option y (sound_half v)) (λ h. h ≡ half_of y b)
    halves Console = tt
    halves Sound = t.half Sound

    places : (y : Side) → has y (sound_half v) ≡ 1 → v.region ≡ region
    places Console e = absurd (omega arith)
    places Sound e = t.of_region Sound e

cut-sum : (y : Side) (v : Known) → has y (console_half v) + has y (sound_half v) ≡ has y v
cut-sum Console v = omega arith
cut-sum Sound v = omega arith

pub halves-cut : (region : Region) (id : ℕ) (v : Known) → Splits (WordsHold region) id v (console_half v) (sound_half v)
halves-cut region id v s hold me =
    let views = set s.views id (console_half v) in
    let b = hold.halves in
    let was = hold.known id v me in
    record {
      halves = b;
      wide = hold.wide;
      single = λ y.
          omega (arith, total-set (has y) s.views id v (console_half v) me, total-append (has y) views (sound_half v ∷ []), cut-sum y v, hold.single y);
      known = λ j u at.
          ⊎_elim
          (λ there.
          ⊎_elim
          (λ t. subst (λ (k : Known). IsTrueTo region b k) t.1 (left-true region b v was))
          (λ t. hold.known j u t.1)
          (at_set s.views id j (console_half v) u there))
          (λ e. subst (λ (k : Known). IsTrueTo region b k) e (right-true region b v was))
          (at_snoc views (sound_half v) u j at);
      words = hold.words;
      tied = hold.tied;
    }

-- two seats are made one
count-or : {A : Type 0} (p q : Option A) → count_of p + count_of q ≤ 1 → count_of (or_else p q) ≡ count_of p + count_of q
count-or None q h = omega arith
count-or (Some x) None h = omega arith
count-or (Some x) (Some y) h = absurd (omega arith)

or-true : {A : Type 0} (P : A → Type 0) (p q : Option A) → IfSome p P → IfSome q P → IfSome (or_else p q) P
or-true P None q a b = b
or-true P (Some x) q a b = a

or-sum : (y : Side) (v w : Known) → has y v + has y w ≤ 1 → has y (joined v w) ≡ has y v + has y w
or-sum Console v w h = count-or v.console w.console h
or-sum Sound v w h = count-or v.sound w.sound h

or-half : (b : Halves) (y : Side) (v w : Known) → IfSome (half_option y v) (λ h. h ≡ half_of y b)
    → IfSome (half_option y w) (λ h. h ≡ half_of y b) → IfSome (half_option y (joined v w)) (λ h. h ≡ half_of y b)
or-half b Console v w p q = or-true (λ h. h ≡ b.console) v.console w.console p q
or-half b Sound v w p q = or-true (λ h. h ≡ b.sound) v.sound w.sound p q

spent-true : (region : Region) (b : Halves) → IsTrueTo region b spent
spent-true region b = record { half = halves; of_region = places }
  where
    halves : (y : Side) → IfSome (half_option y spent) (λ h. h ≡ half_of y b)
    halves Console = tt
    halves Sound = tt

    places : (y : Side) → has y spent ≡ 1 → spent.region ≡ region
    places Console e = absurd (omega arith)
    places Sound e = absurd (omega arith)

has-spent : (y : Side) → has y spent ≡ 0
has-spent Console = refl
has-spent Sound = refl

pub seats-joined : (region : Region) (id : ℕ) (v : Known) (other : ℕ) (w : Known) → has Console v ≡ 1
    → Joins (WordsHold region) id v other w (joined v w) spent
seats-joined region id v other w has_it s hold me ne there =
    let both = joined v w in
    let b = hold.halves in
    let at = sym (set_else s.views id other both ne) ∙ there in
    let views = set s.views id both in
    let tv = hold.known id v me in
    let tw = hold.known other w at in
    let true' : IsTrueTo region b both = record {
      half = λ y. or-half b y v w (tv.half y) (tw.half y);
      of_region = λ y e. tv.of_region Console has_it;
    } in
    record {
      halves = b;
      wide = hold.wide;
      single = λ y.
          omega (
            arith,
            total-set (has y) s.views id v both me,
            total-set (has y) views other w spent there,
            has-spent y,
            or-sum y v w (omega (arith, hold.single y, two-le (has y) s.views id other v w ne me at)),
            hold.single y,
          );
      known = λ j u seen.
          ⊎_elim
          (λ t. subst (λ (k : Known). IsTrueTo region b k) t.1 (spent-true region b))
          (λ t.
          ⊎_elim
          (λ r. subst (λ (k : Known). IsTrueTo region b k) r.1 true')
          (λ r. hold.known j u r.1)
          (at_set s.views id j both u t.1))
          (at_set views other j spent u seen);
      words = hold.words;
      tied = hold.tied;
    }

-- the table at the start: each word is 0
all-same : (z n i : ℕ) → get_or (replicate n z) i z ≡ z
all-same z zero i = refl
all-same z (suc n) zero = refl
all-same z (suc n) (suc i) = all-same z n i

first-words : (side : Side) → AreWordsOf side (replicate all_words 0) no_half
first-words side = record {
  clock = all-same 0 all_words (clock_word side);
  count = all-same 0 all_words (count_word side);
  entries = λ k e at last. cc;
  coming = tt;
}

abbrev new-halves : Halves
new-halves = record { console = no_half; sound = no_half }

pub begins : (region : Region) (words : List ℕ) → words ≡ replicate all_words 0 → length words ≡ all_words
    → WordsHold region (opening words [] (first_view region))
begins region words e wide = record {
  halves = new-halves;
  wide = wide;
  single = single;
  known = known;
  words = λ side. subst (λ (l : List ℕ). AreWordsOf side l (half_of side new-halves)) (sym e) (at-first side);
  tied = tied;
}
  where
    single : (y : Side) → total (has y) (first_view region ∷ []) ≡ 1
    single Console = refl
    single Sound = refl

    at-first : (y : Side) → AreWordsOf y (replicate all_words 0) (half_of y new-halves)
    at-first Console = first-words Console
    at-first Sound = first-words Sound

    tied : (y : Side) → Follows region (half_of y new-halves) (half_of (other_side y) new-halves)
    tied Console = nothing-yet region
    tied Sound = nothing-yet region

    first : IsTrueTo region new-halves (first_view region)
    first = record { half = half; of_region = λ y p. refl }
      where
        half : (y : Side) → IfSome (half_option y (first_view region)) (λ h. h ≡ half_of y new-halves)
        half Console = refl
        half Sound = refl

    known : (j : ℕ) (v : Known) → get_elem? (first_view region ∷ []) j ≡ some v → IsTrueTo region new-halves v
    known zero v p = subst (λ (k : Known). IsTrueTo region new-halves k) (some-injective (first_view region) v p) first
    known (suc j) v p = cc

-- The steps as the code makes them: a seat with no slot, and a word by its number
module _ (region : Region) (slots id : ℕ) (x : Side) (m : Me (Unit {0}) Known) (i : ℕ) (empty : m.1 ≡ []) (has_it : has x m.0 ≡ 1) where
  reads : (word : ℕ) → i ≡ word → owner_of word ≡ other_side x → other_side (owner_of i) ≡ x
  reads word e o = ap (λ k. other_side (owner_of k)) e ∙ ap other_side o ∙ other-twice x

  seat-load : (Then : Side → ℕ → Me (Unit {0}) Known → Type 0) (word : ℕ) → i ≡ word → owner_of word ≡ other_side x
      → Allows (WordsHold region) slots id (m.0, []) word (λ n. n) (Then x)
      → Allows (WordsHold region) slots id m i (λ n. n) (Then (other_side (owner_of i)))
  seat-load Then word e o a =
      subst (λ (y : Side). Allows (WordsHold region) slots id m i (λ n. n) (Then y)) (sym (reads word e o))
      (subst (λ (k : ℕ). Allows (WordsHold region) slots id m k (λ n. n) (Then x)) (sym e)
      (subst (λ (c : List (ℕ × Unit {0})). Allows (WordsHold region) slots id (m.0, c) word (λ n. n) (Then x)) (sym empty) a))

  pub clock-step : (logs : ℕ → List Entry) → i ≡ clock_word (other_side x)
      → end_of (least_of region) (writes_of (half_in x m.0).mine) ≤ (half_in x m.0).at
      → ((found : ℕ) → AllByRecursion (IsClearFrom (half_in x m.0).at) (logs found))
      → Allows (WordsHold region) slots id m i (λ n. n)
      (λ r n. (n.1 ≡ []) × TellsClock (other_side (owner_of i)) m.0 logs r n.0)
  clock-step logs e done clears =
      seat-load (λ y r n. (n.1 ≡ []) × TellsClock y m.0 logs r n.0) (clock_word (other_side x)) e
      (clock-owner (other_side x)) (clock-told region slots id x m.0 logs has_it done clears)

  pub length-step : i ≡ count_word (other_side x)
      → Allows (WordsHold region) slots id m i (λ n. n)
      (λ r n. (n.1 ≡ []) × TellsLength (other_side (owner_of i)) m.0 r n.0)
  length-step e =
      seat-load (λ y r n. (n.1 ≡ []) × TellsLength y m.0 r n.0) (count_word (other_side x)) e
      (count-owner (other_side x)) (length-told region slots id x m.0 has_it)

  pub entry-step : i ≡ entry_word (other_side x) (length (half_in x m.0).heard)
      → length (half_in x m.0).heard < (half_in x m.0).may
      → Allows (WordsHold region) slots id m i (λ n. n)
      (λ r n. (n.1 ≡ []) × TellsEntry (other_side (owner_of i)) m.0 r n.0)
  entry-step e may =
      seat-load (λ y r n. (n.1 ≡ []) × TellsEntry y m.0 r n.0) (entry_word (other_side x) (length (half_in x m.0).heard)) e
      (entry-owner (other_side x) (length (half_in x m.0).heard)) (entry-told region slots id x m.0 has_it may)

  seat-store : (Then : Side → ℕ → Me (Unit {0}) Known → Type 0) (word n : ℕ) → i ≡ word → owner_of word ≡ x
      → Allows (WordsHold region) slots id (m.0, []) word (λ _. n) (λ _. Then x n)
      → Allows (WordsHold region) slots id m i (λ _. n) (λ _. Then (owner_of i) n)
  seat-store Then word n e o a =
      subst (λ (y : Side). Allows (WordsHold region) slots id m i (λ _. n) (λ _. Then y n)) (sym (ap owner_of e ∙ o))
      (subst (λ (k : ℕ). Allows (WordsHold region) slots id m k (λ _. n) (λ _. Then x n)) (sym e)
      (subst (λ (c : List (ℕ × Unit {0})). Allows (WordsHold region) slots id (m.0, c) word (λ _. n) (λ _. Then x n)) (sym empty) a))

  pub put-step : (n : ℕ) → i ≡ entry_word x (written (half_in x m.0)) → entry_number (entry_in n) ≡ n
      → Allows (WordsHold region) slots id m i (λ _. n)
      (λ _ r. r ≡ (changed (owner_of i) (after_put (entry_in n) (half_in (owner_of i) m.0)) m.0, []))
  put-step n e back =
      seat-store (λ y k r. r ≡ (changed y (after_put (entry_in k) (half_in y m.0)) m.0, []))
      (entry_word x (written (half_in x m.0))) n e (entry-owner x (written (half_in x m.0)))
      (entry-put region slots id x m.0 n has_it back)

  pub count-step : (n : ℕ) (f : Entry) → i ≡ count_word x → n ≡ written (half_in x m.0) + 1
      → (half_in x m.0).coming ≡ Some f → IsWrite f → FitsWord f
      → end_of (least_of region) (writes_of (half_in x m.0).mine) ≤ (half_in x m.0).at
      → (half_in x m.0).at ≤ entry_stamp f → entry_stamp f ≤ (half_in x m.0).other + window_of region
      → Allows (WordsHold region) slots id m i (λ _. n)
      (λ _ r. r ≡ (changed (owner_of i) (after_count (half_in (owner_of i) m.0)) m.0, []))
  count-step n f e is coming write fits done late near =
      subst
      (λ (k : ℕ). Allows (WordsHold region) slots id m i (λ _. k) (λ _ r. r ≡ (changed (owner_of i) (after_count (half_in (owner_of i) m.0)) m.0, [])))
      (sym is)
      (seat-store (λ y k r. r ≡ (changed y (after_count (half_in y m.0)) m.0, [])) (count_word x)
      (written (half_in x m.0) + 1) e (count-owner x)
      (count-put region slots id x m.0 f has_it coming write fits done late near))

  pub publish-step : (clock : ℕ) → i ≡ clock_word x → (half_in x m.0).at ≤ clock
      → clock ≤ (half_in x m.0).upto + window_of region + most_of region
      → Allows (WordsHold region) slots id m i (λ _. clock)
      (λ _ r. r ≡ (changed (owner_of i) (after_publish clock (half_in (owner_of i) m.0)) m.0, []))
  publish-step clock e rises near =
      seat-store (λ y k r. r ≡ (changed y (after_publish k (half_in y m.0)) m.0, [])) (clock_word x) clock e
      (clock-owner x) (clock-put region slots id x m.0 clock has_it rises near)

pub look-step : (region : Region) (slots id : ℕ) (m : Me (Unit {0}) Known) → m.1 ≡ [] → m.0.region ≡ region
    → Allows (WordsHold region) slots id m 0 (λ n. n) (λ _ n. (n.1 ≡ []) × TellsAll m.0 n.0)
look-step region slots id m empty place =
    subst
    (λ (c : List (ℕ × Unit {0})). Allows (WordsHold region) slots id (m.0, c) 0 (λ n. n) (λ _ n. (n.1 ≡ []) × TellsAll m.0 n.0))
    (sym empty) (looked region slots id m.0 place)
