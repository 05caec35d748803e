-- A step of a seat changes the half of one side, and the rule holds again.
use Rattle.std.proofs.Common.{◌≡◌, ℕ, List, [], Option, Some, None, length, get_or, set, sym, refl, ap, ◌∙◌, subst, arith, ⊎_elim}
use Rattle.std.specs.Prelude.{unwrap_or, IfSome}
use Rattle.std.proofs.lemmas.List.{set-get_or}
use mathlib.Core.Option.{some}
use lib.ListN.{get_elem?}
use Rattle.atomic_table.specs.Table.{State, keeps, stepped}
use Rattle.atomic_table.proofs.Lists.{at_set}
use Rattle.snes_defs.specs.declared.region.Region.{Region}
use Rattle.snes_defs.specs.declared.ports.Side.{Side}
use Rattle.snes_defs.specs.declared.ports.Side.TheVariants.{Console, Sound}
use Rattle.word_log.specs.Sums.{count_of}
use Rattle.word_log.specs.Layout.{all_words}
use Rattle.port_log.specs.Kept.{other_side}
use Rattle.word_log.specs.Known.{Half, Known, Halves, half_of, with_half, no_half, half_option, half_in, has, changed, told_once}
use Rattle.word_log.specs.Rule.{AreWordsOf, Follows, IsTrueTo, WordsHold}
use Rattle.word_log.proofs.Totals.{total-set, two-le}

-- what holds of a side and of the other one holds of both
pub by-sides : (P : Side → Type 0) (x : Side) → P x → P (other_side x) → (y : Side) → P y
by-sides P Console p q Console = p
by-sides P Console p q Sound = q
by-sides P Sound p q Console = q
by-sides P Sound p q Sound = p

pub changed-own : (x : Side) (h : Half) (b : Halves) → half_of x (with_half x h b) ≡ h
changed-own Console h b = refl
changed-own Sound h b = refl

pub changed-other : (x : Side) (h : Half) (b : Halves) → half_of (other_side x) (with_half x h b) ≡ half_of (other_side x) b
changed-other Console h b = refl
changed-other Sound h b = refl

pub other-twice : (x : Side) → other_side (other_side x) ≡ x
other-twice Console = refl
other-twice Sound = refl

-- a half that a view has
some-half : (P : Half → Type 0) (o : Option Half) → count_of o ≡ 1 → IfSome o P → P (unwrap_or o no_half)
some-half P None e p = absurd (omega arith)
some-half P (Some h) e p = p

pub own-half : (region : Region) (x : Side) (b : Halves) (v : Known) → IsTrueTo region b v → has x v ≡ 1 → half_in x v ≡ half_of x b
own-half region x b v t e = some-half (λ h. h ≡ half_of x b) (half_option x v) e (t.half x)

none-of : {A : Type 0} (o : Option A) (P : A → Type 0) → count_of o ≡ 0 → IfSome o P
none-of None P e = tt
none-of (Some x) P e = absurd (omega arith)

other-view : (x : Side) (h : Half) (b : Halves) (y : Side) (u : Known) → count_of (half_option x u) ≡ 0
    → IfSome (half_option (other_side x) u) (λ g. g ≡ half_of (other_side x) b)
    → IfSome (half_option y u) (λ g. g ≡ half_of y (with_half x h b))
other-view x h b y u none other =
    by-sides (λ z. IfSome (half_option z u) (λ g. g ≡ half_of z (with_half x h b))) x
    (none-of (half_option x u) (λ g. g ≡ half_of x (with_half x h b)) none)
    (subst (λ (k : Half). IfSome (half_option (other_side x) u) (λ g. g ≡ k)) (sym (changed-other x h b)) other) y

-- One step of a seat that has a side's half: the view has another half of that side, and the words say so.
module _ (region : Region) (x : Side) (s : State (Unit {0}) Known) (id : ℕ) (v w : Known) (words : List ℕ) (h : Half) (hold : WordsHold region s) where
  pub moves : get_elem? s.views id ≡ some v → has x v ≡ 1
      → half_option x w ≡ Some h → half_option (other_side x) w ≡ half_option (other_side x) v → w.region ≡ v.region
      → length words ≡ all_words
      → AreWordsOf x words h → AreWordsOf (other_side x) words (half_of (other_side x) hold.halves)
      → Follows region h (half_of (other_side x) hold.halves) → Follows region (half_of (other_side x) hold.halves) h
      → WordsHold region (record { words = words; homes = s.homes; views = set s.views id w })
  moves me has_it own other place wide mine others follows followed =
      let b = with_half x h hold.halves in
      let o = half_of (other_side x) hold.halves in
      let now : half_of x b ≡ h = changed-own x h hold.halves in
      let still : half_of (other_side x) b ≡ o = changed-other x h hold.halves in
      let was : IsTrueTo region hold.halves v = hold.known id v me in
      let mine_true : IfSome (half_option x w) (λ g. g ≡ half_of x b) =
      subst (λ (k : Option Half). IfSome k (λ g. g ≡ half_of x b)) (sym own) (sym now) in
      let other_true : IfSome (half_option (other_side x) w) (λ g. g ≡ half_of (other_side x) b) =
      subst (λ (k : Option Half). IfSome k (λ g. g ≡ half_of (other_side x) b)) (sym other)
      (subst (λ (k : Half). IfSome (half_option (other_side x) v) (λ g. g ≡ k)) (sym still) (was.half (other_side x))) in
      let true_now : IsTrueTo region b w = record {
        half = by-sides (λ y. IfSome (half_option y w) (λ g. g ≡ half_of y b)) x mine_true other_true;
        of_region = λ y e. place ∙ was.of_region x has_it;
      } in
      let same_sum : (y : Side) → has y w ≡ has y v =
      by-sides (λ y. has y w ≡ has y v) x (ap count_of own ∙ sym has_it) (ap count_of other) in
      record {
        halves = b;
        wide = wide;
        single = λ y. omega (arith, total-set (has y) s.views id v w me, same_sum y, hold.single y);
        known = λ j u at.
            ⊎_elim
            (λ t. subst (λ (k : Known). IsTrueTo region b k) t.1 true_now)
            (λ t.
            let there = hold.known j u t.1 in
            let none : count_of (half_option x u) ≡ 0 =
            omega (arith, hold.single x, has_it, two-le (has x) s.views id j v u t.0 me t.1) in
            record {
              half = λ y. other-view x h hold.halves y u none (there.half (other_side x));
              of_region = there.of_region;
            })
            (at_set s.views id j w u at);
        words = by-sides (λ y. AreWordsOf y words (half_of y b)) x
            (subst (AreWordsOf x words) (sym now) mine) (subst (AreWordsOf (other_side x) words) (sym still) others);
        tied = by-sides (λ y. Follows region (half_of y b) (half_of (other_side y) b)) x
            (subst (λ (k : Half). Follows region k (half_of (other_side x) b)) (sym now)
            (subst (λ (k : Half). Follows region h k) (sym still) follows))
            (subst (λ (y : Side). Follows region (half_of (other_side x) b) (half_of y b)) (sym (other-twice x))
            (subst (λ (k : Half). Follows region k (half_of x b)) (sym still)
            (subst (λ (k : Half). Follows region o k) (sym now) followed)));
      }

-- a view whose half of a side is another one
pub own-changed : (x : Side) (h : Half) (v : Known) → half_option x (changed x h v) ≡ Some h
own-changed Console h v = refl
own-changed Sound h v = refl

pub other-changed : (x : Side) (h : Half) (v : Known) → half_option (other_side x) (changed x h v) ≡ half_option (other_side x) v
other-changed Console h v = refl
other-changed Sound h v = refl

pub same-place : (x : Side) (h : Half) (v : Known) → (changed x h v).region ≡ v.region
same-place Console h v = refl
same-place Sound h v = refl

-- the halves of a view that counts one more clock are those that it had
pub other-told : (x : Side) (h : Half) (v : Known) → half_option (other_side x) (changed x h (told_once v)) ≡ half_option (other_side x) v
other-told Console h v = refl
other-told Sound h v = refl

pub place-told : (x : Side) (h : Half) (v : Known) → (changed x h (told_once v)).region ≡ v.region
place-told Console h v = refl
place-told Sound h v = refl

-- a load leaves the words
pub loaded : (region : Region) (s : State (Unit {0}) Known) (i id : ℕ) (w : Known)
    → WordsHold region (record { words = s.words; homes = s.homes; views = set s.views id w })
    → WordsHold region (stepped s i (get_or s.words i 0) id [] w keeps)
loaded region s i id w h =
    subst
    (λ (ws : List ℕ). WordsHold region (record { words = ws; homes = s.homes; views = set s.views id w }))
    (sym (set-get_or s.words i 0)) h
