-- Each step of the lock table keeps its rule.
use Rattle.std.proofs.Common.{◌≡◌, ℕ, ◌+◌, ◌*◌, ◌≤◌, ◌≢◌, List, [], ◌∷◌, Option, Some, get_or, set, sym, refl, ap, ◌∙◌, subst, arith, eqb, length-set, get_or-set_same}
use mathlib.Core.Option.{some}
use lib.ListN.{get_elem?}
use prog.Atomic.{either}
use Rattle.atomic_table.specs.Table.{State, Me, Act, keeps, takes, gives, Valid, carried_after, stepped, Allows, Splits, Joins, opening}
use Rattle.atomic_table.specs.Seated.{TableId}
use Rattle.atomic_table.proofs.Lists.{set_here, set_else, exchanged}
use Rattle.snes_defs.specs.declared.ports.Side.{Side}
use Rattle.snes_defs.specs.declared.ports.Side.TheVariants.{Console, Sound}
use Rattle.snes_defs.specs.declared.region.Region.{Region}
use Rattle.port_log.specs.Known.{Part, Away, Here, Holds, LockKnown, KeptValue, spent_lock}
use Rattle.port_log.specs.Sums.{total}
use Rattle.port_log.specs.LockRule.{side_number, part_in, has, holding, holding_as, missed_once, let_go, given_back, Fits, console_has, sound_has, console_holds, sound_holds, LockHolds, Tries, console_part, sound_part, part_or, both_parts}
use Rattle.port_log.proofs.Totals.{total-append, total-set, two-le, total-less}

holds-has : (p : Part) → holding p ≤ has p
holds-has Away = omega arith
holds-has Here = omega arith
holds-has Holds = omega arith

module _ (list : TableId) (region : Region) where
  -- a seat that stands for a side without holding the log doesn't find that side's number
  idle-console : (s : State (Option KeptValue) LockKnown) (id : ℕ) (v : LockKnown) → LockHolds list region s
      → get_elem? s.views id ≡ some v → v.console ≡ Here → total console_holds s.views ≡ 0
  idle-console s id v h me e =
      omega (arith, h.console, total-less console_holds console_has (λ u. holds-has u.console) s.views id v me, ap holding e, ap has e)

  idle-sound : (s : State (Option KeptValue) LockKnown) (id : ℕ) (v : LockKnown) → LockHolds list region s
      → get_elem? s.views id ≡ some v → v.sound ≡ Here → total sound_holds s.views ≡ 0
  idle-sound s id v h me e =
      omega (arith, h.sound, total-less sound_holds sound_has (λ u. holds-has u.sound) s.views id v me, ap holding e, ap has e)

  -- the word that a seat wrote back, or exchanged
  word-now : (s : State (Option KeptValue) LockKnown) (n : ℕ) → LockHolds list region s
      → get_or (set s.words 0 n) 0 0 ≡ n
  word-now s n h = get_or-set_same s.words 0 n 0 (omega (arith, h.wide))

  -- the word is the number of one side at most
  word-le : (s : State (Option KeptValue) LockKnown) → LockHolds list region s → get_or s.words 0 0 ≤ 2
  word-le s h = omega (arith, h.turn, h.single)

  -- a seat that only counts a miss keeps the rule
  missed-holds : (s : State (Option KeptValue) LockKnown) (id : ℕ) (v : LockKnown) → LockHolds list region s
      → get_elem? s.views id ≡ some v
      → LockHolds list region (stepped s 0 (get_or s.words 0 0) id [] (missed_once v) keeps)
  missed-holds s id v h me =
      let w = missed_once v in
      let a = total-set console_has s.views id v w me in
      let b = total-set sound_has s.views id v w me in
      let c = total-set console_holds s.views id v w me in
      let d = total-set sound_holds s.views id v w me in
      let now = word-now s (get_or s.words 0 0) h in
      record {
        wide = length-set s.words 0 (get_or s.words 0 0) ∙ h.wide;
        console = omega (arith, a, h.console);
        sound = omega (arith, b, h.sound);
        turn = now ∙ h.turn ∙ omega (arith, c, d);
        single = omega (arith, c, d, h.single);
        home = λ z. h.home (sym now ∙ z);
      }

  -- and so does one that takes the log as a side
  module _ (s : State (Option KeptValue) LockKnown) (id : ℕ) (v : LockKnown) (kept : KeptValue) (h : LockHolds list region s) (me : get_elem? s.views id ≡ some v) (free : get_or s.words 0 0 ≡ 0) where
    taken-console : v.console ≡ Here → LockHolds list region (stepped s 0 1 id [] (holding_as 1 v) (takes 0 (Some kept)))
    taken-console e =
        let w : LockKnown = record v { console = Holds } in
        let a = total-set console_has s.views id v w me in
        let b = total-set sound_has s.views id v w me in
        let c = total-set console_holds s.views id v w me in
        let d = total-set sound_holds s.views id v w me in
        let now = word-now s 1 h in
        let mine : has v.console ≡ 1 = ap has e in
        let idle : holding v.console ≡ 0 = ap holding e in
        let none : total console_holds s.views + 2 * total sound_holds s.views ≡ 0 = sym h.turn ∙ free in
        record {
          wide = length-set s.words 0 1 ∙ h.wide;
          console = omega (arith, a, h.console, mine);
          sound = omega (arith, b, h.sound);
          turn = now ∙ omega (arith, c, d, idle, none);
          single = omega (arith, c, d, idle, none);
          home = λ z. absurd (omega (arith, sym now ∙ z));
        }

    taken-sound : v.sound ≡ Here → LockHolds list region (stepped s 0 2 id [] (holding_as 2 v) (takes 0 (Some kept)))
    taken-sound e =
        let w : LockKnown = record v { sound = Holds } in
        let a = total-set console_has s.views id v w me in
        let b = total-set sound_has s.views id v w me in
        let c = total-set console_holds s.views id v w me in
        let d = total-set sound_holds s.views id v w me in
        let now = word-now s 2 h in
        let mine : has v.sound ≡ 1 = ap has e in
        let idle : holding v.sound ≡ 0 = ap holding e in
        let none : total console_holds s.views + 2 * total sound_holds s.views ≡ 0 = sym h.turn ∙ free in
        record {
          wide = length-set s.words 0 2 ∙ h.wide;
          console = omega (arith, a, h.console);
          sound = omega (arith, b, h.sound, mine);
          turn = now ∙ omega (arith, c, d, idle, none);
          single = omega (arith, c, d, idle, none);
          home = λ z. absurd (omega (arith, sym now ∙ z));
        }

  -- what a seat finds in the turn word is never its own number
  not-own-console : (s : State (Option KeptValue) LockKnown) (id : ℕ) (v : LockKnown) → LockHolds list region s
      → get_elem? s.views id ≡ some v → v.console ≡ Here → get_or s.words 0 0 ≡ 1 → ⊥
  not-own-console s id v h me e z = let none = idle-console s id v h me e in omega (arith, h.turn, none, z)

  not-own-sound : (s : State (Option KeptValue) LockKnown) (id : ℕ) (v : LockKnown) → LockHolds list region s
      → get_elem? s.views id ≡ some v → v.sound ≡ Here → get_or s.words 0 0 ≡ 2 → ⊥
  not-own-sound s id v h me e z = let none = idle-sound s id v h me e in omega (arith, h.turn, h.single, none, z)

  -- a try to take the log as a side
  module _ (slots id : ℕ) (v : LockKnown) (same_list : v.list ≡ list) (same_region : v.region ≡ region) where
    abbrev Outcome : (s : State (Option KeptValue) LockKnown) → ℕ → ℕ → Type 0
    Outcome s number x =
        (w : LockKnown) × (a : Act (Option KeptValue)) × Valid s.homes [] a
        × LockHolds list region (stepped s 0 x id [] w a)
        × Tries number v (get_or s.words 0 0) (w, carried_after [] a)

    misses : (s : State (Option KeptValue) LockKnown) (number : ℕ) → LockHolds list region s
        → get_elem? s.views id ≡ some v → (get_or s.words 0 0 ≢ 0) → Outcome s number (get_or s.words 0 0)
    misses s number h me busy = (
      missed_once v,
      keeps,
      tt,
      missed-holds s id v h me,
      record {
        free = λ z. absurd (busy z);
        held = λ _. refl;
        not_console = not-own-console s id v h me;
        not_sound = not-own-sound s id v h me;
        within = word-le s h;
      },
    )

    takes-it : (s : State (Option KeptValue) LockKnown) (number : ℕ) → LockHolds list region s
        → get_elem? s.views id ≡ some v
        → ((kept : KeptValue) → get_or s.words 0 0 ≡ 0 → LockHolds list region (stepped s 0 number id [] (holding_as number v) (takes 0 (Some kept))))
        → (get_or s.words 0 0 ≡ 0) → Outcome s number number
    takes-it s number h me holds free =
        let t = h.home free in (
          holding_as number v,
          takes 0 (Some t.0),
          t.1,
          holds t.0 free,
          record {
            free = λ _. (t.0, refl, (t.2.0 ∙ sym same_list, t.2.1 ∙ sym same_region));
            held = λ busy. absurd (busy free);
            not_console = not-own-console s id v h me;
            not_sound = not-own-sound s id v h me;
            within = word-le s h;
          },
        )

    pub tries-console : v.console ≡ Here
        → Allows (LockHolds list region) slots id (v, []) 0 (λ n. either (eqb n 0) 1 n) (Tries 1 v)
    tries-console e s h wide me small =
        exchanged (get_or s.words 0 0) 0 1 (Outcome s 1)
        (takes-it s 1 h me (λ kept free. taken-console s id v kept h me free e))
        (misses s 1 h me)

    pub tries-sound : v.sound ≡ Here
        → Allows (LockHolds list region) slots id (v, []) 0 (λ n. either (eqb n 0) 2 n) (Tries 2 v)
    tries-sound e s h wide me small =
        exchanged (get_or s.words 0 0) 0 2 (Outcome s 2)
        (takes-it s 2 h me (λ kept free. taken-sound s id v kept h me free e))
        (misses s 2 h me)

  has-let_go : (p : Part) → has (let_go p) ≡ has p
  has-let_go Away = refl
  has-let_go Here = refl
  has-let_go Holds = refl

  holding-let_go : (p : Part) → holding (let_go p) ≡ 0
  holding-let_go Away = refl
  holding-let_go Here = refl
  holding-let_go Holds = refl

  -- the log is given back with the slot
  pub gives-back : (id : ℕ) (v : LockKnown) (kept : KeptValue) → Fits list region kept
      → holding v.console + holding v.sound ≡ 1
      → Allows (LockHolds list region) 1 id (v, (0, Some kept) ∷ []) 0 (λ _. 0) (λ _ m. m ≡ (given_back v, []))
  gives-back id v kept fits one s h wide me small =
      let w = given_back v in
      let a = total-set console_has s.views id v w me in
      let b = total-set sound_has s.views id v w me in
      let c = total-set console_holds s.views id v w me in
      let d = total-set sound_holds s.views id v w me in
      let now = word-now s 0 h in
      let hc = has-let_go v.console in
      let hs = has-let_go v.sound in
      let gc = holding-let_go v.console in
      let gs = holding-let_go v.sound in (
        w,
        gives,
        tt,
        record {
          wide = length-set s.words 0 0 ∙ h.wide;
          console = omega (arith, a, h.console, hc);
          sound = omega (arith, b, h.sound, hs);
          turn = now ∙ omega (arith, c, d, gc, gs, one, h.single);
          single = omega (arith, c, d, gc, gs, one, h.single);
          home = λ _. (kept, set_here s.homes 0 (some (Some kept)) (omega (arith, wide)), fits);
        },
        refl,
      )

  -- a seat of both sides is cut by sides
  pub cuts : (id : ℕ) (v : LockKnown) → Splits (LockHolds list region) id v (console_part v) (sound_part v)
  cuts id v s h me =
      let left = console_part v in
      let right = sound_part v in
      let views = set s.views id left in
      let a = total-set console_has s.views id v left me in
      let b = total-set sound_has s.views id v left me in
      let c = total-set console_holds s.views id v left me in
      let d = total-set sound_holds s.views id v left me in
      let a' = total-append console_has views (right ∷ []) in
      let b' = total-append sound_has views (right ∷ []) in
      let c' = total-append console_holds views (right ∷ []) in
      let d' = total-append sound_holds views (right ∷ []) in
      record {
        wide = h.wide;
        console = omega (arith, a, a', h.console);
        sound = omega (arith, b, b', h.sound);
        turn = h.turn ∙ omega (arith, c, c', d, d');
        single = omega (arith, c, c', d, d', h.single);
        home = h.home;
      }

  has-or : (p q : Part) → has p + has q ≤ 1 → has (part_or p q) ≡ has p + has q
  has-or Away q h = omega arith
  has-or Here q h = omega arith
  has-or Holds q h = omega arith

  holding-or : (p q : Part) → has p + has q ≤ 1 → holding (part_or p q) ≡ holding p + holding q
  holding-or Away q h = omega arith
  holding-or Here q h = omega (arith, holds-has q)
  holding-or Holds q h = omega (arith, holds-has q)

  -- two seats are made one
  pub merges : (id : ℕ) (v : LockKnown) (other : ℕ) (w : LockKnown)
      → Joins (LockHolds list region) id v other w (both_parts v w) spent_lock
  merges id v other w s h me ne there =
      let both = both_parts v w in
      let at = sym (set_else s.views id other both ne) ∙ there in
      let pc : has v.console + has w.console ≤ 1 = omega (arith, h.console, two-le console_has s.views id other v w ne me at) in
      let ps : has v.sound + has w.sound ≤ 1 = omega (arith, h.sound, two-le sound_has s.views id other v w ne me at) in
      let views = set s.views id both in
      let a = total-set console_has s.views id v both me in
      let b = total-set sound_has s.views id v both me in
      let c = total-set console_holds s.views id v both me in
      let d = total-set sound_holds s.views id v both me in
      let a' = total-set console_has views other w spent_lock there in
      let b' = total-set sound_has views other w spent_lock there in
      let c' = total-set console_holds views other w spent_lock there in
      let d' = total-set sound_holds views other w spent_lock there in
      let oc = has-or v.console w.console pc in
      let os = has-or v.sound w.sound ps in
      let kc = holding-or v.console w.console pc in
      let ks = holding-or v.sound w.sound ps in
      record {
        wide = h.wide;
        console = omega (arith, a, a', oc, h.console);
        sound = omega (arith, b, b', os, h.sound);
        turn = h.turn ∙ omega (arith, c, c', d, d', kc, ks);
        single = omega (arith, c, c', d, d', kc, ks, h.single);
        home = h.home;
      }

  -- the table at the start
  pub opens : (kept : KeptValue) → Fits list region kept
      → LockHolds list region (opening (0 ∷ []) (Some kept ∷ []) (record {
        console = Here;
        sound = Here;
        missed = 0;
        list = list;
        region = region;
      }))
  opens kept fits = record {
    wide = refl;
    console = refl;
    sound = refl;
    turn = refl;
    single = omega arith;
    home = λ _. (kept, refl, fits);
  }

  -- a seat with no slot tries to take the log as a side
  tries-as : (slots id : ℕ) (side : Side) (v : LockKnown) → v.list ≡ list → v.region ≡ region
      → part_in side v ≡ Here
      → Allows (LockHolds list region) slots id (v, []) 0 (λ k. either (eqb k 0) (side_number side) k)
      (Tries (side_number side) v)
  tries-as slots id Console v same_list same_region here = tries-console slots id v same_list same_region here
  tries-as slots id Sound v same_list same_region here = tries-sound slots id v same_list same_region here

  pub tries : (slots id : ℕ) (side : Side) (n : ℕ) (m : Me (Option KeptValue) LockKnown) → m.1 ≡ []
      → n ≡ side_number side → m.0.list ≡ list → m.0.region ≡ region → part_in side m.0 ≡ Here
      → Allows (LockHolds list region) slots id m 0 (λ k. either (eqb k 0) n k) (Tries n m.0)
  tries slots id side n m empty e same_list same_region here =
      subst
      (λ (x : ℕ). Allows (LockHolds list region) slots id m 0 (λ k. either (eqb k 0) x k) (Tries x m.0))
      (sym e)
      (subst
      (λ (l : List (ℕ × Option KeptValue)).
      Allows (LockHolds list region) slots id (m.0, l) 0 (λ k. either (eqb k 0) (side_number side) k) (Tries (side_number side) m.0))
      (sym empty)
      (tries-as slots id side m.0 same_list same_region here))

  -- a seat with the slot gives the log back
  pub give : (slots id : ℕ) (m : Me (Option KeptValue) LockKnown) (v : LockKnown) (kept : KeptValue)
      → slots ≡ 1 → m ≡ (v, (0, Some kept) ∷ []) → Fits list region kept
      → holding v.console + holding v.sound ≡ 1
      → Allows (LockHolds list region) slots id m 0 (λ _. 0) (λ _ r. r ≡ (given_back m.0, []))
  give slots id m v kept one e fits holds =
      let M = Me (Option KeptValue) LockKnown in
      subst
      (λ (n : ℕ). Allows (LockHolds list region) n id m 0 (λ _. 0) (λ _ r. r ≡ (given_back m.0, [])))
      (sym one)
      (subst
      (λ (x : M). Allows (LockHolds list region) 1 id x 0 (λ _. 0) (λ _ r. r ≡ (given_back x.0, [])))
      (sym e)
      (gives-back id v kept fits holds))
