-- What the words of a side say after each step of it or of the other one.
use Rattle.std.proofs.Common.{◌≡◌, ◌≢◌, ℕ, zero, suc, ◌+◌, ◌*◌, ◌/◌, ◌%◌, ◌<◌, ◌≤◌, List, [], ◌∷◌, ◌++◌, Option, Some, None, Bool, if◌then◌else◌, length, get_or, set, sym, refl, ap, ◌∙◌, subst, arith, length-append, get_or-set_same, get_or-set_other}
use Rattle.std.specs.Prelude.{slice_get, IfSome}
use native.Mathlib.Decide.{ℕ_discrete}
use Rattle.atomic_table.proofs.Lists.{one_turn}
use Rattle.std.proofs.lemmas.Option.{slice_get_within}
use Rattle.std.proofs.lemmas.Bool.{lt-ltb, le-ltb}
use Rattle.snes_defs.specs.declared.ports.Side.{Side}
use Rattle.snes_defs.specs.declared.ports.Side.TheVariants.{Console, Sound}
use Rattle.port_entries.specs.Entry.{Entry, WriteAt, ClearAt}
use Rattle.port_wire.specs.Seen.{writes_of}
use Rattle.word_log.specs.Sums.{count_of}
use Rattle.word_log.specs.Layout.{all_words, ring, clock_word, count_word, entry_word, owner_of, entry_number, entry_in, FitsWord}
use Rattle.port_log.specs.Kept.{other_side}
use Rattle.word_log.specs.Known.{Half}
use Rattle.word_log.specs.Rule.{AreWordsOf, written}
use Rattle.word_log.specs.Steps.{after_put}
use Rattle.word_log.proofs.Entries.{IsWrite}
use Rattle.word_log.proofs.Knowing.{counted}

below-ring : (k : ℕ) → k % ring < ring
below-ring k = omega arith

-- each word is one of the table
pub clock-within : (side : Side) → clock_word side < all_words
clock-within Console = omega arith
clock-within Sound = omega arith

pub count-within : (side : Side) → count_word side < all_words
count-within Console = omega arith
count-within Sound = omega arith

pub entry-within : (side : Side) (k : ℕ) → entry_word side k < all_words
entry-within Console k = omega (arith, below-ring k)
entry-within Sound k = omega (arith, below-ring k)

-- another word than each of a side's
pub record IsNone (side : Side) (word : ℕ) : Type 0 where
  pub clock : clock_word side ≢ word
  pub count : count_word side ≢ word
  pub entry : (k : ℕ) → entry_word side k ≢ word

pub clock-apart : (side : Side) → IsNone (other_side side) (clock_word side)
clock-apart Console = record {
  clock = λ e. absurd (omega arith);
  count = λ e. absurd (omega arith);
  entry = λ k e. absurd (omega (arith, below-ring k));
}
clock-apart Sound = record {
  clock = λ e. absurd (omega arith);
  count = λ e. absurd (omega arith);
  entry = λ k e. absurd (omega (arith, below-ring k));
}

pub count-apart : (side : Side) → IsNone (other_side side) (count_word side)
count-apart Console = record {
  clock = λ e. absurd (omega arith);
  count = λ e. absurd (omega arith);
  entry = λ k e. absurd (omega (arith, below-ring k));
}
count-apart Sound = record {
  clock = λ e. absurd (omega arith);
  count = λ e. absurd (omega arith);
  entry = λ k e. absurd (omega (arith, below-ring k));
}

pub entry-apart : (side : Side) (n : ℕ) → IsNone (other_side side) (entry_word side n)
entry-apart Console n = record {
  clock = λ e. absurd (omega (arith, below-ring n));
  count = λ e. absurd (omega (arith, below-ring n));
  entry = λ k e. absurd (omega (arith, below-ring k, below-ring n));
}
entry-apart Sound n = record {
  clock = λ e. absurd (omega (arith, below-ring n));
  count = λ e. absurd (omega (arith, below-ring n));
  entry = λ k e. absurd (omega (arith, below-ring k, below-ring n));
}

-- a store to another word
pub stored-else : (side : Side) (words : List ℕ) (h : Half) (i n : ℕ) → IsNone side i → AreWordsOf side words h
    → AreWordsOf side (set words i n) h
stored-else side words h i n none a = record {
  clock = get_or-set_other words i (clock_word side) n 0 none.clock ∙ a.clock;
  count = get_or-set_other words i (count_word side) n 0 none.count ∙ a.count;
  entries = λ k e at last. get_or-set_other words i (entry_word side k) n 0 (none.entry k) ∙ a.entries k e at last;
  coming = coming-else h.coming a.coming;
}
  where
    coming-else : (o : Option Entry) → IfSome o (λ e. get_or words (entry_word side (written h)) 0 ≡ entry_number e)
        → IfSome o (λ e. get_or (set words i n) (entry_word side (written h)) 0 ≡ entry_number e)
    coming-else None p = tt
    coming-else (Some e) p = get_or-set_other words i (entry_word side (written h)) n 0 (none.entry (written h)) ∙ p

-- a half with the same writes and clock
pub same-words : (side : Side) (words : List ℕ) (h g : Half) → writes_of g.mine ≡ writes_of h.mine → g.at ≡ h.at
    → g.coming ≡ h.coming → AreWordsOf side words h → AreWordsOf side words g
same-words side words h g w at c a =
    let many = ap length w in
    let counts = ap count_of c in
    record {
      clock = a.clock ∙ sym at;
      count = a.count ∙ sym many;
      entries = λ k e is last. a.entries k e (ap (λ l. slice_get l k) (sym w) ∙ is) (omega (arith, many, counts, last));
      coming =
          subst (λ (o : Option Entry). IfSome o (λ e. get_or words (entry_word side (written g)) 0 ≡ entry_number e)) (sym c)
          (subst (λ (n : ℕ). IfSome h.coming (λ e. get_or words (entry_word side n) 0 ≡ entry_number e)) (sym many) a.coming);
    }

-- its clock is published
own-apart : (side : Side) (n : ℕ) → entry_word side n ≢ clock_word side
own-apart Console n = λ e. absurd (omega (arith, below-ring n))
own-apart Sound n = λ e. absurd (omega (arith, below-ring n))

own-count : (side : Side) (n : ℕ) → entry_word side n ≢ count_word side
own-count Console n = λ e. absurd (omega (arith, below-ring n))
own-count Sound n = λ e. absurd (omega (arith, below-ring n))

clock-count : (side : Side) → clock_word side ≢ count_word side
clock-count Console = λ e. absurd (omega arith)
clock-count Sound = λ e. absurd (omega arith)

if-some : {A : Type 0} (P Q : A → Type 0) (o : Option A) → ((a : A) → P a → Q a) → IfSome o P → IfSome o Q
if-some P Q None f p = tt
if-some P Q (Some a) f p = f a p

pub clock-stored : (side : Side) (words : List ℕ) (h : Half) (clock : ℕ) → length words ≡ all_words
    → AreWordsOf side words h → AreWordsOf side (set words (clock_word side) clock) (record h { at = clock })
clock-stored side words h clock wide a = record {
  clock = get_or-set_same words (clock_word side) clock 0 (omega (arith, wide, clock-within side));
  count = get_or-set_other words (clock_word side) (count_word side) clock 0 (λ e. clock-count side (sym e)) ∙ a.count;
  entries = λ k e at last.
      get_or-set_other words (clock_word side) (entry_word side k) clock 0 (own-apart side k) ∙ a.entries k e at last;
  coming = if-some (λ e. get_or words (entry_word side (written h)) 0 ≡ entry_number e) _ h.coming
      (λ e p. get_or-set_other words (clock_word side) (entry_word side (written h)) clock 0 (own-apart side (written h)) ∙ p)
      a.coming;
}

-- a write is put: the places of the last ones are other ones
other-place : (side : Side) (k n : ℕ) → k < n → n + 1 ≤ k + ring → entry_word side k ≢ entry_word side n
other-place side k n h near = λ e.
    let same : k % ring ≡ n % ring = same-place side e in
    absurd (omega (arith, one_turn k n ring (omega arith) (omega arith) same))
  where
    same-place : (s : Side) → entry_word s k ≡ entry_word s n → k % ring ≡ n % ring
    same-place Console e = omega (arith, e)
    same-place Sound e = omega (arith, e)

pub entry-stored : (side : Side) (words : List ℕ) (h : Half) (e : Entry) → length words ≡ all_words
    → AreWordsOf side words h
    → AreWordsOf side (set words (entry_word side (written h)) (entry_number e)) (after_put e h)
entry-stored side words h e wide a =
    let i = entry_word side (written h) in
    let n = entry_number e in
    record {
      clock = get_or-set_other words i (clock_word side) n 0 (λ p. own-apart side (written h) (sym p)) ∙ a.clock;
      count = get_or-set_other words i (count_word side) n 0 (λ p. own-count side (written h) (sym p)) ∙ a.count;
      entries = λ k f at last.
          get_or-set_other words i (entry_word side k) n 0
          (other-place side k (written h) (slice_get_within (writes_of h.mine) k f at) (omega (arith, last)))
          ∙ a.entries k f at (omega (arith, last, counts-little h.coming (written h) (slice_get_within (writes_of h.mine) k f at)));
      coming = get_or-set_same words i n 0 (omega (arith, wide, entry-within side (written h)));
    }
  where
    counts-little : (o : Option Entry) (n : ℕ) {k : ℕ} → k < n → count_of o ≤ 1
    counts-little None n h = omega arith
    counts-little (Some x) n h = omega arith

-- and counted
place-of : (xs : List Entry) (e f : Entry) (k : ℕ) → slice_get (xs ++ e ∷ []) k ≡ Some f → (k ≡ length xs → e ≡ f) × (¬ (k ≡ length xs) → slice_get xs k ≡ Some f)
place-of [] e f zero at = ((λ h. some-is at), (λ h. absurd (h refl)))
  where
    some-is : {a b : Entry} → Some a ≡ Some b → a ≡ b
    some-is p = cc
place-of [] e f (suc k) at = cc
place-of (x ∷ xs) e f zero at = ((λ h. absurd (omega arith)), (λ h. at))
place-of (x ∷ xs) e f (suc k) at =
    let r = place-of xs e f k at in
    ((λ h. r.0 (omega arith)), (λ h. r.1 (λ p. h (omega arith))))

pub count-stored : (side : Side) (words : List ℕ) (h : Half) (e : Entry) → length words ≡ all_words → IsWrite e
    → h.coming ≡ Some e → AreWordsOf side words h
    → AreWordsOf side (set words (count_word side) (written h + 1)) (record h { mine = h.mine ++ e ∷ []; coming = None })
count-stored side words h e wide write c a =
    let i = count_word side in
    let n = written h + 1 in
    let w = counted h.mine e write in
    let more = ap length w ∙ length-append (writes_of h.mine) (e ∷ []) in
    let stands : get_or words (entry_word side (written h)) 0 ≡ entry_number e =
    subst (λ (o : Option Entry). IfSome o (λ x. get_or words (entry_word side (written h)) 0 ≡ entry_number x)) c a.coming in
    let held : count_of h.coming ≡ 1 = ap count_of c in
    record {
      clock = get_or-set_other words i (clock_word side) n 0 (clock-count side) ∙ a.clock;
      count = get_or-set_same words i n 0 (omega (arith, wide, count-within side)) ∙ sym more;
      entries = λ k f at last.
          get_or-set_other words i (entry_word side k) n 0 (own-count side k)
          ∙ at-place k f (place-of (writes_of h.mine) e f k (ap (λ l. slice_get l k) (sym w) ∙ at)) (omega (arith, last, more, held)) stands;
      coming = tt;
    }
  where
    at-place : (k : ℕ) (f : Entry)
        → (k ≡ written h → e ≡ f) × (¬ (k ≡ written h) → slice_get (writes_of h.mine) k ≡ Some f)
        → written h + count_of h.coming ≤ k + ring
        → get_or words (entry_word side (written h)) 0 ≡ entry_number e
        → get_or words (entry_word side k) 0 ≡ entry_number f
    at-place k f r near stands = by-place (dec k (written h))
      where
        dec : (x y : ℕ) → Dec (x ≡ y)
        dec x y = ℕ_discrete x y

        by-place : Dec (k ≡ written h) → get_or words (entry_word side k) 0 ≡ entry_number f
        by-place (yes p) = ap (λ j. get_or words (entry_word side j) 0) p ∙ stands ∙ ap entry_number (r.0 p)
        by-place (no p) = a.entries k f (r.1 p) near

-- whose word it is
pub clock-owner : (side : Side) → owner_of (clock_word side) ≡ side
clock-owner Console = refl
clock-owner Sound = refl

pub count-owner : (side : Side) → owner_of (count_word side) ≡ side
count-owner Console = refl
count-owner Sound = refl

pub entry-owner : (side : Side) (k : ℕ) → owner_of (entry_word side k) ≡ side
entry-owner Console k =
    ap (λ (b : Bool). if b then Console else Sound) (lt-ltb (entry_word Console k) 8224 (omega (arith, below-ring k)))
entry-owner Sound k =
    ap (λ (b : Bool). if b then Console else Sound) (le-ltb (entry_word Sound k) 8224 (omega (arith, below-ring k)))

-- what is read of a word is the write that stands in it
pub read-back : (e : Entry) → IsWrite e → FitsWord e → entry_in (entry_number e) ≡ e
read-back (WriteAt t p v) w f =
    ap (λ a. WriteAt a ((t * 1024 + p * 256 + v) / 256 % 4) ((t * 1024 + p * 256 + v) % 256)) (stamp-back t p v f.1 f.2)
    ∙ ap (λ a. WriteAt t a ((t * 1024 + p * 256 + v) % 256)) (port-back t p v f.1 f.2)
    ∙ ap (λ a. WriteAt t p a) (byte-back t p v f.2)
  where
    stamp-back : (t p v : ℕ) → p < 4 → v < 256 → (t * 1024 + p * 256 + v) / 1024 ≡ t
    stamp-back t p v h k = omega arith

    port-back : (t p v : ℕ) → p < 4 → v < 256 → (t * 1024 + p * 256 + v) / 256 % 4 ≡ p
    port-back t p v h k = omega arith

    byte-back : (t p v : ℕ) → v < 256 → (t * 1024 + p * 256 + v) % 256 ≡ v
    byte-back t p v k = omega arith
read-back (ClearAt t m) w f = absurd w
