-- What a call over two seats that stand for both sides does to a whole.
use Rattle.std.proofs.Common.{◌≡◌, ℕ, ◌+◌, ◌≤◌, List, ◌++◌, Some, Result, Ok, Err, refl, ap, sym, ◌∙◌, subst, arith}
use Rattle.std.specs.List.{AllByRecursion}
use Rattle.snes_defs.specs.declared.ports.Side.{Side}
use Rattle.snes_defs.specs.declared.ports.Side.TheVariants.{Console, Sound}
use Rattle.port_entries.specs.Entry.{Entry, entry_stamp}
use Rattle.port_entries.specs.LastValue.{last_value}
use Rattle.port_entries.specs.Window.{IsSettled, IsWithinWindow}
use Rattle.port_log.specs.Kept.{other_side}
use Rattle.port_log.specs.Refused.{IsBehind, IsAhead}
use Rattle.port_log.specs.declared.late.Late.{Late}
use Rattle.port_log.specs.declared.late.Late.TheVariants as late
use Rattle.port_wire.specs.Seen as seen
use Rattle.port_wire.specs.Answers.{HearsOn}
use Rattle.port_wire.specs.Whole.{HearBoth}
use Rattle.port_wire.specs.declared.late.PassLate.{PassLate}
use Rattle.port_wire.specs.declared.late.PassLate.TheVariants.{Behind, Ahead, Held}
use Rattle.port_log.specs.Known.{Half, Book}
use Rattle.port_log.specs.PortsKnown.{PortsKnown}
use Rattle.port_log.specs.Sums.{count_of}
use Rattle.port_log.specs.LockRule.{holding}
use Rattle.port_log.specs.ListRule.{list_in, clock_in, IsTrueHalf, logged, half_by}
use Rattle.port_log.specs.Seating.{AreIdle, MissesOnce, half_in}
use Rattle.port_log.specs.PassCalls.{IsTold, IfHeld, IfTold, logged_by, clock_by, ReadAnswers, ClearAnswers, WriteAnswers}
use Rattle.port_log.specs.Lateness.{IsAsOfLog}
use Rattle.port_log.specs.Passes.{shown, ports_of}
use Rattle.port_log.specs.Wholes.{WholeValue, whole_of, both_of, AreKnown, StandForBoth}
use Rattle.port_log.specs.WholeCalls.{own_half, other_half, whole_after, IsLateLook, ReadsWhole, ClearsWhole, WritesWhole, console_clocks, sound_clocks}
use Rattle.port_wire.specs.declared.counts.Counts.{Counts}
use Rattle.port_log.specs.declared.seats.Seats.{Seats}
use Rattle.port_log.specs.declared.seats.Clocks.{Clocks}
use Rattle.port_log.proofs.Calling.{half-true}
use Rattle.port_log.proofs.Listing.{other-sound, other-console}
use Rattle.port_log.proofs.Passing.{told-half, still-half, same-ports}

-- seats that stand for both sides are idle for each
pub idle-both : (side : Side) (seats : Seats) (sound : Clocks) → StandForBoth seats sound → AreIdle side seats
idle-both Console seats sound s = record {
  here = s.console_here;
  other = ap holding s.sound_here;
  no_slot = s.no_slot;
  no_list_slot = s.no_list_slot;
  has_half = s.has_console;
  no_book = s.no_book;
}
idle-both Sound seats sound s = record {
  here = s.sound_here;
  other = ap holding s.console_here;
  no_slot = s.no_slot;
  no_list_slot = s.no_list_slot;
  has_half = s.has_sound;
  no_book = s.no_book;
}

-- a whole never misses the log
never-misses : (side : Side) {before after : Seats} {sound : Clocks} → StandForBoth before sound
    → MissesOnce side before after → ⊥
never-misses Console s m = m.not_both s.sound_here
never-misses Sound s m = m.not_both s.console_here

-- so each call over one is told
pub told-always : {A : Type 0} (T : Type 0) (r : Result A PassLate) (side : Side) (after : Seats) {before : Seats}
    {sound : Clocks} → StandForBoth before sound
    → IfHeld r (λ by. (by ≡ other_side side) × MissesOnce side before after) → IfTold r T → T
told-always T (Ok x) side after s h t = t
told-always T (Err (Behind need other)) side after s h t = t
told-always T (Err (Ahead at other)) side after s h t = t
told-always T (Err (Held by)) side after s h t = absurd (never-misses side s h.1)

-- what an answer logs, and the clock that it leaves, as it is of the log
pub same-logged : {A : Type 0} (r : Result A PassLate) (q : Result A Late) (e : Entry) → IsAsOfLog r q
    → logged_by r e ≡ logged_by q e
same-logged (Ok x) q e same = ap (λ y. logged_by y e) (sym same)
same-logged (Err (Behind need other)) q e same = ap (λ y. logged_by y e) (sym same)
same-logged (Err (Ahead at other)) q e same = ap (λ y. logged_by y e) (sym same)
same-logged (Err (Held by)) q e same = absurd same

pub same-clock : {A : Type 0} (r : Result A PassLate) (q : Result A Late) (next at own : ℕ) → IsAsOfLog r q → at ≡ own
    → clock_by r next at ≡ clock_by q next own
same-clock (Ok x) q next at own same e = ap (λ y. clock_by y next own) (sym same)
same-clock (Err (Behind need other)) q next at own same e = e ∙ ap (λ y. clock_by y next own) (sym same)
same-clock (Err (Ahead stamp other)) q next at own same e = e ∙ ap (λ y. clock_by y next own) (sym same)
same-clock (Err (Held by)) q next at own same e = absurd same

-- what is seen of a side, by its parts; and equal parts make equal values
half : List Entry → ℕ → List Entry → ℕ → Counts → seen.Half
half mine at heard upto c = shown (record { mine = mine; at = at; heard = heard; upto = upto }) c

half-eq : {m n : List Entry} {a b : ℕ} {h g : List Entry} {u v : ℕ} (c : Counts) → m ≡ n → a ≡ b → h ≡ g → u ≡ v
    → half m a h u c ≡ half n b g v c
half-eq {m} {n} {a} {b} {h} {g} {u} {v} c e f i j =
    ap (λ (x : List Entry). half x a h u c) e
    ∙ ap (λ (x : ℕ). half n x h u c) f
    ∙ ap (λ (x : List Entry). half n b x u c) i
    ∙ ap (λ (x : ℕ). half n b g x c) j

value : PortsKnown → seen.Half → seen.Half → ℕ → ℕ → WholeValue
value ports console sound told missed =
    record { ports = ports; console = console; sound = sound; told = told; missed = missed }

value-eq : {p q : PortsKnown} {c d : seen.Half} {s r : seen.Half} {t u : ℕ} {m n : ℕ} → p ≡ q → c ≡ d → s ≡ r
    → t ≡ u → m ≡ n → value p c s t m ≡ value q d r u n
value-eq {p} {q} {c} {d} {s} {r} {t} {u} {m} {n} e f i j k =
    ap (λ (x : PortsKnown). value x c s t m) e
    ∙ ap (λ (x : seen.Half). value q x s t m) f
    ∙ ap (λ (x : seen.Half). value q d x t m) i
    ∙ ap (λ (x : ℕ). value q d r x m) j
    ∙ ap (λ (x : ℕ). value q d r u x) k

-- a whole after a call, by the book
whole-by : (side : Side) (b : Book) (es : List Entry) (clock : ℕ) (v after : Seats) (c d : Counts)
    → IsTrueHalf Console b (half_in Console v.list.me.0) → IsTrueHalf Sound b (half_in Sound v.list.me.0)
    → ports_of after ≡ ports_of v → after.list.me.0.told ≡ v.list.me.0.told + 1
    → after.lock.me.0.missed ≡ v.lock.me.0.missed
    → half_in Console after.list.me.0 ≡ half_by Console (logged side es clock b)
    → half_in Sound after.list.me.0 ≡ half_by Sound (logged side es clock b)
    → whole_of after c d ≡ whole_after side es clock (whole_of v c d)
unfolding value half
whole-by Console b es clock v after c d x y ports told missed e f =
    value-eq ports
    (ap (λ (h : Half). shown h c) e ∙ half-eq c (ap (λ (l : List Entry). l ++ es) (sym x.mine)) refl (sym y.mine) (sym y.at))
    (ap (λ (h : Half). shown h d) f ∙ half-eq d (sym y.mine) (sym y.at) (ap (λ (l : List Entry). l ++ es) (sym x.mine)) refl)
    told missed
whole-by Sound b es clock v after c d x y ports told missed e f =
    value-eq ports
    (ap (λ (h : Half). shown h c) e ∙ half-eq c (sym x.mine) (sym x.at) (ap (λ (l : List Entry). l ++ es) (sym y.mine)) refl)
    (ap (λ (h : Half). shown h d) f ∙ half-eq d (ap (λ (l : List Entry). l ++ es) (sym y.mine)) refl (sym x.mine) (sym x.at))
    told missed

-- the clocks that are kept of the two sides after a call
console-known : (side : Side) (b : Book) (es : List Entry) (clock : ℕ) (k : Clocks) → k.own ≡ clock
    → k.known ≡ clock_in (other_side side) b
    → AreKnown (console_clocks side k) (half_by Console (logged side es clock b))
console-known Console b es clock k e f = record { own = e; known = f }
console-known Sound b es clock k e f = record { own = f; known = e }

sound-known : (side : Side) (b : Book) (es : List Entry) (clock : ℕ) (k : Clocks) → k.own ≡ clock
    → k.known ≡ clock_in (other_side side) b
    → AreKnown (sound_clocks side k) (half_by Sound (logged side es clock b))
sound-known Console b es clock k e f = record { own = f; known = e }
sound-known Sound b es clock k e f = record { own = e; known = f }

known-as : (k m : Clocks) (h g : Half) → m ≡ k → h ≡ g → AreKnown k g → AreKnown m h
known-as k m h g e f a = record {
  own = ap (λ x. x.own) e ∙ a.own ∙ sym (ap (λ x. x.at) f);
  known = ap (λ x. x.known) e ∙ a.known ∙ sym (ap (λ x. x.upto) f);
}

-- a side that hears all after a call forgets nothing
hears-now : (side x : Side) (b : Book) (es : List Entry) (clock : ℕ) (h : Half) (c : Counts) → IsTrueHalf x b h
    → clock_in side b ≤ clock → AllByRecursion (λ e. clock_in side b ≤ entry_stamp e) es
    → HearsOn (shown h c) (shown (half_by x (logged side es clock b)) c)
hears-now Console Console b es clock h c p rises later = record {
  more = p.heard.rest;
  heard = p.heard.whole_is;
  later = p.heard.later;
  upto = p.upto;
  known = p.upto;
}
hears-now Sound Sound b es clock h c p rises later = record {
  more = p.heard.rest;
  heard = p.heard.whole_is;
  later = p.heard.later;
  upto = p.upto;
  known = p.upto;
}
hears-now Console Sound b es clock h c p rises later =
    let q = other-sound b es clock (Some h) rises later p in
    record { more = q.heard.rest; heard = q.heard.whole_is; later = q.heard.later; upto = q.upto; known = q.upto }
hears-now Sound Console b es clock h c p rises later =
    let q = other-console b es clock (Some h) rises later p in
    record { more = q.heard.rest; heard = q.heard.whole_is; later = q.heard.later; upto = q.upto; known = q.upto }

-- what a call logs is as late as its stamp, and the clock that it leaves is not earlier
pub later-logged : {A E : Type 0} (r : Result A E) (e : Entry) (n : ℕ) → n ≤ entry_stamp e
    → AllByRecursion (λ x. n ≤ entry_stamp x) (logged_by r e)
later-logged (Ok x) e n h = (h, tt)
later-logged (Err late) e n h = tt

pub rises-by : {A E : Type 0} (r : Result A E) (next at : ℕ) → at ≤ next → at ≤ clock_by r next at
rises-by (Ok x) next at h = h
rises-by (Err late) next at h = omega arith

pub own-le : (side : Side) (v : Seats) (c d : Counts) (n : ℕ) → (own_half side (whole_of v c d)).at ≤ n
    → (half_in side v.list.me.0).at ≤ n
own-le Console v c d n h = h
own-le Sound v c d n h = h

pub own-at : (side : Side) (v : Seats) (c d : Counts) → (half_in side v.list.me.0).at ≡ (own_half side (whole_of v c d)).at
own-at Console v c d = refl
own-at Sound v c d = refl

-- a call that had the log
module _ {side : Side} {before after : Seats} {sound : Clocks} {es : List Entry} {clock : ℕ} {Answers : Book → Type 0} (s : StandForBoth before sound) (t : IsTold side before after es clock Answers) where
  console-now : half_in Console after.list.me.0 ≡ half_by Console (logged side es clock t.found)
  console-now =
      ap (λ m. half_in Console m.0) t.list
      ∙ told-half Console (logged side es clock t.found) before.list.me.0 s.has_console

  sound-now : half_in Sound after.list.me.0 ≡ half_by Sound (logged side es clock t.found)
  sound-now =
      ap (λ m. half_in Sound m.0) t.list
      ∙ told-half Sound (logged side es clock t.found) before.list.me.0 s.has_sound

  pub stand-both : (console now : Clocks) → console ≡ console_clocks side after.clocks
      → now ≡ sound_clocks side after.clocks → StandForBoth (record after { clocks = console }) now
  stand-both console now e f = record {
    console_here = ap (λ m. m.0.console) t.lock ∙ s.console_here;
    sound_here = ap (λ m. m.0.sound) t.lock ∙ s.sound_here;
    no_slot = ap (λ m. m.1) t.lock;
    no_list_slot = ap (λ m. m.1) t.list;
    has_console =
        ap (λ m. count_of m.0.console) t.list
        ∙ still-half Console (logged side es clock t.found) before.list.me.0 ∙ s.has_console;
    has_sound =
        ap (λ m. count_of m.0.sound) t.list
        ∙ still-half Sound (logged side es clock t.found) before.list.me.0 ∙ s.has_sound;
    no_book = ap (λ m. m.0.book) t.list;
    names_list = ap (λ m. m.0.list) t.lock ∙ s.names_list ∙ sym t.list_table;
    console_clocks =
        known-as _ _ _ _ e console-now (console-known side t.found es clock after.clocks t.own t.told);
    sound_clocks =
        known-as _ _ _ _ f sound-now (sound-known side t.found es clock after.clocks t.own t.told);
  }

  pub whole-told : (fs : List Entry) (own : ℕ) (c d : Counts) → es ≡ fs → clock ≡ own
      → whole_of after c d ≡ whole_after side fs own (whole_of before c d)
  whole-told fs own c d e f =
      whole-by side t.found es clock before after c d
      (half-true Console t.found before.list.me.0 t.known s.has_console)
      (half-true Sound t.found before.list.me.0 t.known s.has_sound)
      (same-ports before after t.lock_table t.list_table (ap (λ m. m.0.region) t.lock))
      (ap (λ m. m.0.told) t.list) (ap (λ m. m.0.missed) t.lock) console-now sound-now
      ∙ ap (λ (l : List Entry). whole_after side l clock (whole_of before c d)) e
      ∙ ap (λ (n : ℕ). whole_after side fs n (whole_of before c d)) f

  pub both-hear : (c d : Counts) → (half_in side before.list.me.0).at ≤ clock
      → AllByRecursion (λ e. (half_in side before.list.me.0).at ≤ entry_stamp e) es
      → HearBoth (both_of (whole_of before c d)) (both_of (whole_of after c d))
  both-hear c d rises later =
      let console = half-true Console t.found before.list.me.0 t.known s.has_console in
      let sound = half-true Sound t.found before.list.me.0 t.known s.has_sound in
      let own : (half_in side before.list.me.0).at ≡ clock_in side t.found = (half-true side t.found before.list.me.0 t.known (idle-both side before _ s).has_half).at in
      let at : clock_in side t.found ≤ clock = omega (arith, own, rises) in
      let es-later = subst (λ (n : ℕ). AllByRecursion (λ e. n ≤ entry_stamp e) es) own later in
      record {
        console =
            subst (λ (h : Half). HearsOn (shown (half_in Console before.list.me.0) c) (shown h c)) (sym console-now)
            (hears-now side Console t.found es clock (half_in Console before.list.me.0) c console at es-later);
        sound =
            subst (λ (h : Half). HearsOn (shown (half_in Sound before.list.me.0) d) (shown h d)) (sym sound-now)
            (hears-now side Sound t.found es clock (half_in Sound before.list.me.0) d sound at es-later);
      }

  -- what the whole shows of a side is so by the book
  shows : (x : Side) (c d : Counts) → (own_half x (whole_of before c d)).mine ≡ list_in x t.found
  shows Console c d = (half-true Console t.found before.list.me.0 t.known s.has_console).mine
  shows Sound c d = (half-true Sound t.found before.list.me.0 t.known s.has_sound).mine

  pub clock-is : (x : Side) (c d : Counts) → (own_half x (whole_of before c d)).at ≡ clock_in x t.found
  clock-is Console c d = (half-true Console t.found before.list.me.0 t.known s.has_console).at
  clock-is Sound c d = (half-true Sound t.found before.list.me.0 t.known s.has_sound).at

  -- so the answers of the log are those on the lists of the whole
  settled : (at : ℕ) (c d : Counts) → IsSettled side at (clock_in (other_side side) t.found)
      → IsSettled side at (other_half side (whole_of before c d)).at
  settled at c d h = subst (λ (n : ℕ). IsSettled side at n) (sym (clock-is (other_side side) c d)) h

  late-look : (at need other : ℕ) (c d : Counts)
      → (need ≡ at) × (other ≡ clock_in (other_side side) t.found) × IsBehind side at (clock_in (other_side side) t.found)
      → IsLateLook side at (late.Behind need other) (whole_of before c d)
  late-look at need other c d h =
      let k = sym (clock-is (other_side side) c d) in
      (h.0, h.1 ∙ k, subst (λ (n : ℕ). IsBehind side at n) k h.2)

  pub reads : (at port : ℕ) (c d : Counts) (r : Result ℕ PassLate) (q : Result ℕ Late) → IsAsOfLog r q
      → ReadAnswers side at port r t.found → ReadsWhole side at port q (whole_of before c d)
  reads at port c d (Ok byte) q e h =
      let w = whole_of before c d in
      subst (λ (x : Result ℕ Late). ReadsWhole side at port x w) (sym e) (
        h.0
            ∙ ap (λ (l : List Entry). last_value side l port at (list_in (other_side side) t.found)) (sym (shows side c d))
            ∙ ap (λ (l : List Entry). last_value side (own_half side w).mine port at l) (sym (shows (other_side side) c d)),
        settled at c d h.1,
      )
  reads at port c d (Err (Behind need other)) q e h =
      subst (λ (x : Result ℕ Late). ReadsWhole side at port x (whole_of before c d)) (sym e) (late-look at need other c d h)
  reads at port c d (Err (Ahead stamp other)) q e h = absurd h
  reads at port c d (Err (Held by)) q e h = absurd e

  pub clears : (at : ℕ) (c d : Counts) (r : Result (Unit {0}) PassLate) (q : Result (Unit {0}) Late) → IsAsOfLog r q
      → ClearAnswers side at r t.found → ClearsWhole side at q (whole_of before c d)
  clears at c d (Ok done) q e h =
      subst (λ (x : Result (Unit {0}) Late). ClearsWhole side at x (whole_of before c d)) (sym e) (settled at c d h)
  clears at c d (Err (Behind need other)) q e h =
      subst (λ (x : Result (Unit {0}) Late). ClearsWhole side at x (whole_of before c d)) (sym e) (late-look at need other c d h)
  clears at c d (Err (Ahead stamp other)) q e h = absurd h
  clears at c d (Err (Held by)) q e h = absurd e

  pub writes : (window at : ℕ) (c d : Counts) (r : Result (Unit {0}) PassLate) (q : Result (Unit {0}) Late)
      → IsAsOfLog r q → WriteAnswers window side at r t.found → WritesWhole window side at q (whole_of before c d)
  writes window at c d (Ok done) q e h =
      let k = sym (clock-is (other_side side) c d) in
      subst (λ (x : Result (Unit {0}) Late). WritesWhole window side at x (whole_of before c d)) (sym e)
      (subst (λ (n : ℕ). IsWithinWindow window at n) k h)
  writes window at c d (Err (Ahead stamp other)) q e h =
      let k = sym (clock-is (other_side side) c d) in
      subst (λ (x : Result (Unit {0}) Late). WritesWhole window side at x (whole_of before c d)) (sym e)
      (h.0, h.1 ∙ k, subst (λ (n : ℕ). IsAhead window at n) k h.2)
  writes window at c d (Err (Behind need other)) q e h = absurd h
  writes window at c d (Err (Held by)) q e h = absurd e
